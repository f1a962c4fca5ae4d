-- The beginning and the end of a text: what a reader that begins finds is what the text is to mean; and where no line is due, the text is whole exactly where
-- none of it is left. Assumes nothing.
use Prim.Native.Nat.{ℕ, suc, ◌+◌, ◌*◌, ◌≤◌, ◌<◌}
use native.Mathlib.Omega.{arith}
use mathlib.Core.Path.{◌≡◌, refl, sym, ◌∙◌, ap}
use mathlib.Core.Bool.{Bool, true, false, true≢false}
use lib.Dec.{eqb}
use mathlib.Core.List.{List, [], ◌∷◌, append-nil}
use lib.ListN.{length, take}
use borrow.Author.Tests.{lt-ltb, le-ltb, eqb-true}
use Rattle.std.specs.Prelude.{Result, Ok, Err}
use Rattle.ascii.specs.Bytes.{ends_line, split}
use Rattle.ascii.proofs.SplitLaws.{split_at, split_in}
use Rattle.fields.specs.Between.Fields.{lines_of}
use Rattle.form.specs.declared.reader.Reader.{Reader}
use Rattle.form.specs.Between.Form.{text_lines, stop, walk, whole, nothing_left, walked, unsupported_line, numbers_of, first_barred, kept_of}
use Rattle.form.specs.Between.Reading.{outcome, Stand, stand, starting, going_on, found, FindsSame, Reads}
use Rattle.text_sections.specs.Between.Outcome.{text_outcome, found_in, outcome_of}
use Rattle.text_sections.specs.declared.text.Numbers.{Numbers}
use Rattle.std.specs.Result.{IsErrAnd}
use Rattle.std.proofs.lemmas.Result.{err_from_is_err_and}
use Rattle.form.specs.Between.Reading.Outcome.{Broken, Whole}
use Rattle.form.proofs.GoingLaws.{same_either}
use Rattle.form.proofs.StopLaws.{first_or_none}

pub going_start : (text tape : List ℕ) (there : ℕ × ℕ) → going_on text_lines (starting text tape there) ≡ text_outcome text
unfolding going_on outcome text_outcome walked unsupported_line numbers_of
going_start text tape there = same_either (whole (walked text)) refl refl (omega arith)

-- nothing is due any more
walk_over : (others : List (List ℕ)) (l : List ℕ) → walk others l [] ≡ stop others l []
unfolding walk
walk_over [] l = refl
walk_over (m ∷ others) l = refl

-- bytes that are left leave something of the runs
left_over : (b : ℕ) (bs : List ℕ) → nothing_left ((lines_of (b ∷ bs)).first ∷ (lines_of (b ∷ bs)).others) ≡ false
unfolding nothing_left
left_over b bs = by_case (ends_line b) refl
  where
    by_case : (t : Bool) → ends_line b ≡ t → nothing_left ((lines_of (b ∷ bs)).first ∷ (lines_of (b ∷ bs)).others) ≡ false
    by_case true e = rw (split_at ends_line b bs e)
    by_case false e = rw (split_in ends_line b bs e)

module _ (s : Stand) where
  -- what is left, where no line is due
  going_last : (bytes : List ℕ) → s.rest ≡ bytes
      → going_on [] s ≡ outcome s.line s.barred (take s.count s.tape) (stop (lines_of bytes).others (lines_of bytes).first [])
  unfolding going_on
  going_last bytes e = rw (e, walk_over (lines_of bytes).others (lines_of bytes).first)

  -- a text that goes on is broken there
  pub going_over : (b : ℕ) (bytes : List ℕ) → s.rest ≡ b ∷ bytes → going_on [] s ≡ Broken (s.line + 1)
  unfolding outcome whole
  going_over b bytes more = going_last (b ∷ bytes) more ∙ rw (left_over b bytes) (ap Broken (omega arith))

  -- a text that ends there is whole
  pub going_whole : s.rest ≡ [] → going_on [] s ≡ Whole (take s.count s.tape) s.barred
  unfolding outcome whole split nothing_left kept_of first_barred
  going_whole over =
      going_last [] over ∙ rw (append-nil (take s.count s.tape)) (ap (Whole (take s.count s.tape)) (sym (first_or_none s.barred)))

-- a text for whose numbers there is no room
pub found_long : (room : ℕ) (text : List ℕ) → 2 * room < length text → Broken 0 ≡ found_in room text
unfolding found_in
found_long room text long = rw (lt-ltb (2 * room) (length text) long)

-- what a reader that began with the text has found at its end
module _ (room : ℕ) {text tape : List ℕ} {there : ℕ × ℕ} {r s : Reader} (short : length text ≤ 2 * room) (begins : stand r ≡ starting text tape there) where
  found_at_end : {result : Result (Unit {0}) ℕ} → FindsSame text_lines r result s → found result [] (stand s) ≡ found_in room text
  unfolding found_in
  found_at_end read =
      read.same [] ∙ ap (λ ds. going_on ds (stand r)) (append-nil text_lines) ∙ ap (going_on text_lines) begins
      ∙ going_start text tape there ∙ rw (le-ltb (2 * room) (length text) short)

  pub found_broken : (result : Result Numbers ℕ) {n : ℕ} → IsErrAnd result (λ m. m ≡ n) → FindsSame text_lines r (Err n) s → outcome_of result ≡ found_in room text
  found_broken result is read = let (m, e, f) = err_from_is_err_and result is in rw (e, f) (found_at_end read)

  -- the tape is the one with which it began
  pub found_there : Reads text_lines r (Ok tt) s → s.tape.ref_ptr ≡ there
  found_there read = read.same_tape ∙ ap (λ u. u.tape_at) begins

  module _ (read : FindsSame text_lines r (Ok tt) s) where
    pub found_over : eqb (length s.rest.now) 0 ≡ false → {n : ℕ} → n ≡ s.line + 1 → Broken n ≡ found_in room text
    found_over more told = ap Broken told ∙ by_rest s.rest.now refl more
      where
        by_rest : (bytes : List ℕ) → s.rest.now ≡ bytes → eqb (length bytes) 0 ≡ false → Broken (s.line + 1) ≡ found_in room text
        by_rest [] e h = absurd (true≢false h)
        by_rest (b ∷ bytes) e h = sym (going_over (stand s) b bytes e) ∙ found_at_end read

    pub found_whole : eqb (length s.rest.now) 0 ≡ true → Whole (take s.count s.tape.now) s.barred ≡ found_in room text
    found_whole over = sym (going_whole (stand s) (by_rest s.rest.now over)) ∙ found_at_end read
      where
        by_rest : (bytes : List ℕ) → eqb (length bytes) 0 ≡ true → bytes ≡ []
        by_rest [] e = refl
        by_rest (b ∷ bytes) e = absurd (let none : suc (length bytes) ≡ 0 = eqb-true (suc (length bytes)) 0 e in omega arith)
