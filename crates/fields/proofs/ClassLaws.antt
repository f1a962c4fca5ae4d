-- What a byte is by its class: the code tells what ends a word, and what ends a line, by the classes of two bytes. Assumes nothing.
use Prim.Native.Nat.{ℕ}
use mathlib.Core.Path.{◌≡◌, refl}
use mathlib.Core.Bool.{Bool, true, false, cond}
use lib.Dec.{eqb}
use borrow.Author.Tests.{eqb-true}
use denote.Enum.Bare.{sameb}
use Rattle.ascii.specs.Bytes.{space, line_end, ends_line, ascii_digit}
use Rattle.fields.specs.declared.class.Class.{Class}
use Rattle.fields.specs.declared.class.Class.TheVariants as class
use Rattle.fields.specs.contracts.class.Class.{the_type}
use Rattle.fields.specs.declared.word.End.{End}
use Rattle.fields.specs.declared.word.End.TheVariants.{Space, LineEnd}
use Rattle.fields.specs.Between.Fields.{minus_sign, ends_word, class_of}
use Rattle.fields.specs.Between.Reading.{end_byte}

-- whether two classes are the same, as the code tests it
abbrev same_class : Class → Class → Bool
same_class = sameb the_type

-- a class by the four tests
abbrev class_by : Bool → Bool → Bool → Bool → Class
class_by digit minus blank end =
    elim digit [ true ↦ class.Digit | false ↦ cond minus class.Minus (cond blank class.Space (cond end class.LineEnd class.Other)) ]

-- a class that is not the one whose test fails
not_space : (digit minus blank end : Bool) → blank ≡ false → same_class (class_by digit minus blank end) class.Space ≡ false
not_space true minus blank end fails = refl
not_space false true blank end fails = refl
not_space false false true end fails = fails
not_space false false false true fails = refl
not_space false false false false fails = refl

not_line_end : (digit minus blank end : Bool) → end ≡ false → same_class (class_by digit minus blank end) class.LineEnd ≡ false
not_line_end true minus blank end fails = refl
not_line_end false true blank end fails = refl
not_line_end false false true end fails = refl
not_line_end false false false true fails = fails
not_line_end false false false false fails = refl

-- a byte has the class of what ends a word exactly where it is that byte
pub same_end : (b : ℕ) (e : End) → same_class (class_of b) (class_of (end_byte e)) ≡ eqb b (end_byte e)
unfolding class_of
same_end b Space = by_case (ends_word b) refl
  where
    by_case : (t : Bool) → ends_word b ≡ t → same_class (class_of b) class.Space ≡ t
    by_case true is = let same : b ≡ space = eqb-true b space is in rw same
    by_case false is = not_space (ascii_digit b) (eqb b minus_sign) (ends_word b) (ends_line b) is
same_end b LineEnd = by_case (ends_line b) refl
  where
    by_case : (t : Bool) → ends_line b ≡ t → same_class (class_of b) class.LineEnd ≡ t
    by_case true is = let same : b ≡ line_end = eqb-true b line_end is in rw same
    by_case false is = not_line_end (ascii_digit b) (eqb b minus_sign) (ends_word b) (ends_line b) is
