-- What stands behind a line: behind bytes in which none ends, and behind its line end. Assumes nothing.
use Prim.Native.Nat.{ℕ, zero, suc, ◌+◌, ◌-◌, ◌≤◌, ◌<◌}
use native.Mathlib.Omega.{arith}
use mathlib.Core.Path.{◌≡◌, refl, sym, ◌∙◌, ap}
use mathlib.Core.Bool.{Bool, true, false, true≢false, ◌&&◌, ◌||◌}
use mathlib.Core.List.{List, [], ◌∷◌, ◌++◌}
use lib.ListN.{length, take, drop, get_or, take-append-drop, length-drop}
use lib.Seq.{take_at, drop-append_seam}
use borrow.Author.Tests.{ltb-false, eqb-true}
use lib.Dec.{eqb}
use lib.Pointwise.{pointwise}
use Rattle.std.specs.Prelude.{Option, Some, None, MatchOption, nat_lt, nat_eq}
use Rattle.std.specs.Borrow.{Bor}
use Rattle.std.specs.Cmp.Lexicographic.{same_text, other_text}
use Rattle.std.specs.List.{fold, position, position_or_len}
use Rattle.std.proofs.lemmas.List.{take_all}
use Rattle.std.proofs.lemmas.List.Quantifiers.{position-Some}
use Rattle.ascii.specs.Bytes.{ends_line, line_end, runs, split}
use Rattle.ascii.proofs.SplitLaws.{split_at, split_in}
use Rattle.fields.specs.Between.Fields.{lines_of}
use Rattle.fields.specs.Between.Reading.{has_line_end, StripsLine}

-- two tests of which the second fails
pub fails_either : (t : Bool) → (t && false) ≡ false
fails_either true = refl
fails_either false = refl

-- bytes in which no line ends
pub line_goes_on : (block rest : List ℕ) → has_line_end block ≡ false → (lines_of rest).others ≡ (lines_of (block ++ rest)).others
line_goes_on [] rest none = refl
line_goes_on (b ∷ block) rest none = by_case (line_goes_on block rest) (ends_line b) refl none
  where
    by_case : (has_line_end block ≡ false → (lines_of rest).others ≡ (lines_of (block ++ rest)).others) → (t : Bool) → ends_line b ≡ t
        → (t || has_line_end block) ≡ false → (lines_of rest).others ≡ (lines_of (b ∷ (block ++ rest))).others
    by_case later true is ends = absurd (true≢false ends)
    by_case later false is ends = later ends ∙ sym (ap (λ s. s.others) (split_in ends_line b (block ++ rest) is))

pub block_passed : (n : ℕ) (bs block after : List ℕ) → block ≡ take n bs → after ≡ drop n bs → has_line_end block ≡ false
    → (lines_of after).others ≡ (lines_of bs).others
block_passed n bs block after front back none =
    line_goes_on block after none ∙ ap (λ l. (lines_of l).others) (rw (front, back) (take-append-drop n bs))

-- whether a line ends within bytes, found byte by byte
pub ends_folded : (found : Bool) (bs : List ℕ) → fold (λ f b. f || ends_line b) found bs ≡ found || has_line_end bs
ends_folded found [] = sym (either found)
  where
    either : (f : Bool) → (f || false) ≡ f
    either true = refl
    either false = refl
ends_folded found (b ∷ bs) = ends_folded (found || ends_line b) bs ∙ either found (ends_line b) (has_line_end bs)
  where
    either : (f g h : Bool) → ((f || g) || h) ≡ f || (g || h)
    either true g h = refl
    either false g h = refl

-- the first line end, if there is one
pub line_ends : (bs : List ℕ) (i : ℕ) → i < length bs → ends_line (get_or bs i 0) ≡ true → ((k : ℕ) → k < i → ends_line (get_or bs k 0) ≡ false)
    → (lines_of bs).others ≡ runs (lines_of (drop (i + 1) bs))
line_ends [] i inside ends before = absurd (omega arith)
line_ends (b ∷ bs) zero inside ends before = ap (λ s. s.others) (split_at ends_line b bs ends)
line_ends (b ∷ bs) (suc i) inside ends before =
    ap (λ s. s.others) (split_in ends_line b bs (before zero (omega arith)))
    ∙ line_ends bs i (omega arith) ends (λ k less. before (suc k) (omega arith))
    ∙ ap (λ k. runs (lines_of (drop k (b ∷ bs)))) (next i)
  where
    next : (k : ℕ) → suc (k + 1) ≡ suc k + 1
    next k = omega arith

no_end : (bs : List ℕ) → length bs ≤ position_or_len ends_line bs → (lines_of bs).others ≡ []
unfolding split
no_end [] far = refl
no_end (b ∷ bs) far = by_case (no_end bs) (ends_line b) refl
  where
    by_case : (length bs ≤ position_or_len ends_line bs → (lines_of bs).others ≡ []) → (t : Bool) → ends_line b ≡ t → (lines_of (b ∷ bs)).others ≡ []
    by_case later true is = absurd (omega (arith, rw is at far))
    by_case later false is = ap (λ s. s.others) (split_in ends_line b bs is) ∙ later (omega (arith, rw is at far))

pub line_unended : (bs : List ℕ) → position ends_line bs ≡ None → (lines_of bs).others ≡ []
line_unended bs e = by_case (nat_lt (position_or_len ends_line bs) (length bs)) refl
  where
    by_case : (t : Bool) → nat_lt (position_or_len ends_line bs) (length bs) ≡ t → (lines_of bs).others ≡ []
    by_case true is = absurd (some_is_none (rw is at e))
      where
        some_is_none : {n : ℕ} → Some n ≡ None → ⊥
        some_is_none h = cc
    by_case false is = no_end bs (ltb-false (position_or_len ends_line bs) (length bs) is)

-- where the first line end is found, or none is
pub skips_line : (bs rest : List ℕ) → (lines_of rest).others ≡ (lines_of bs).others → length rest ≤ length bs → (i : ℕ) → Some i ≡ position ends_line rest
    → (r : List ℕ) → r ≡ take (length rest - (i + 1)) (drop (i + 1) rest) → ((lines_of bs).others ≡ runs (lines_of r)) × (length r < length bs)
skips_line bs rest same few i found r is =
    let ends = position-Some ends_line rest i 0 (sym found) in
    let whole : take (length rest - (i + 1)) (drop (i + 1) rest) ≡ drop (i + 1) rest =
    take_all (length rest - (i + 1)) (drop (i + 1) rest) (omega (arith, length-drop (i + 1) rest)) in (
      sym same ∙ line_ends rest i ends.0 ends.1 ends.2 ∙ ap (λ l. runs (lines_of l)) (sym (is ∙ whole)),
      omega (arith, ends.0, ap length (is ∙ whole), length-drop (i + 1) rest),
    )

-- bytes that begin with others, and those behind them
abbrev pub begins : List ℕ → List ℕ → Bool
begins front bs = pointwise nat_eq (take (length front) bs) front

pub begins_with : (front bs : List ℕ) → begins front bs ≡ true → bs ≡ front ++ drop (length front) bs
begins_with front bs e =
    let same : take (length front) bs ≡ front = same_text (take (length front) bs) front (sym e) in
    sym (take-append-drop (length front) bs) ∙ ap (λ l. l ++ drop (length front) bs) same

pub begins_byte : (b : ℕ) (bs rest : List ℕ) → begins (b ∷ []) bs ≡ true → rest ≡ drop 1 bs → bs ≡ b ∷ rest
begins_byte b bs rest e behind = begins_with (b ∷ []) bs e ∙ ap (λ l. b ∷ l) (sym behind)

pub begins_otherwise : (front bs t : List ℕ) → begins front bs ≡ false → bs ≡ front ++ t → ⊥
begins_otherwise front bs t e is = other_text (take (length front) bs) front (sym e) (rw is (take_at front t (length front) refl))

-- bytes whose first one is found to be this byte
pub begins_same : (b d : ℕ) {bs rest : List ℕ} → bs ≡ b ∷ rest → true ≡ eqb b d → bs ≡ d ∷ rest
begins_same b d {bs} {rest} begins same = begins ∙ ap (λ c. c ∷ rest) (eqb-true b d (sym same))

-- a line and its line end, or no such line
pub strips_no_line : (bs line : List ℕ) → begins line bs ≡ false → StripsLine bs line None
strips_no_line bs line e t is = begins_otherwise line bs (line_end ∷ t) e is

pub strips_line : (bs line rest : List ℕ) → begins line bs ≡ true → rest ≡ drop (length line) bs → (r : Option (Bor (List ℕ)))
    → MatchOption r ((t : List ℕ) → rest ≡ line_end ∷ t → ⊥) (λ x. rest ≡ line_end ∷ x.now) → StripsLine bs line r
strips_line bs line rest front behind None none = λ t is. none t (behind ∙ rw is (drop-append_seam line (line_end ∷ t)))
strips_line bs line rest front behind (Some x) ends = begins_with line bs front ∙ ap (λ l. line ++ l) (sym behind ∙ ends)
