-- A reader that stops before a line that is not what it must be. Assumes nothing.
use Prim.Native.Nat.{ℕ, ◌+◌}
use mathlib.Core.Path.{◌≡◌, refl, sym}
use mathlib.Core.List.{List, [], ◌∷◌}
use Rattle.std.specs.Prelude.{Some, None, Err}
use Rattle.refusal.specs.Place.{Place, or_else}
use Rattle.form.specs.declared.reader.Reader.{Reader}
use Rattle.form.specs.Between.Form.{Row, Due, numbers}
use Rattle.form.specs.Between.Reading.{going_on, stand, FindsSame, Reads, FindsSameRow, ReadsRow}
use Rattle.form.specs.Between.Reading.Outcome.{Broken}
use Rattle.form.proofs.ReadsLaws.{on_tape, row_found_on_tape}

pub first_or_none : (p : Place) → p ≡ or_else p None
first_or_none None = refl
first_or_none (Some n) = refl

-- where the next line is found broken, to stop before it is right
module _ {r r' : Reader} where
  pub stops_row : {row : Row} {n : ℕ} → n ≡ r.line + 1 → ((ds : List Due) → going_on (numbers row ∷ ds) (stand r) ≡ Broken (r.line + 1))
      → FindsSameRow row r (Err n) r'
  stops_row e breaks = record { same = λ next. rw e (sym (breaks next)) }

  pub stops : {d : Due} {n : ℕ} → n ≡ r.line + 1 → ((ds : List Due) → going_on (d ∷ ds) (stand r) ≡ Broken (r.line + 1))
      → FindsSame (d ∷ []) r (Err n) r'
  stops e breaks = record { same = λ next. rw e (sym (breaks next)) }

  -- and where the tape is the one that it had
  pub stops_row_on_tape : {row : Row} {n : ℕ} → n ≡ r.line + 1 → r'.tape.ref_ptr ≡ r.tape.ref_ptr
      → ((ds : List Due) → going_on (numbers row ∷ ds) (stand r) ≡ Broken (r.line + 1)) → ReadsRow row r (Err n) r'
  stops_row_on_tape e lies breaks = row_found_on_tape (stops_row e breaks) lies

  pub stops_on_tape : {d : Due} {n : ℕ} → n ≡ r.line + 1 → r'.tape.ref_ptr ≡ r.tape.ref_ptr
      → ((ds : List Due) → going_on (d ∷ ds) (stand r) ≡ Broken (r.line + 1)) → Reads (d ∷ []) r (Err n) r'
  stops_on_tape e lies breaks = on_tape (stops e breaks) lies
