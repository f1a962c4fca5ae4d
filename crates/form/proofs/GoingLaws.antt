-- How a line takes a reader on: where it is what it must be, going on behind it finds what going on before it did; where it is not, or there is none, going
-- on finds that line broken. Assumes nothing.
use Prim.Native.Nat.{ℕ, ◌+◌}
use native.Mathlib.Omega.{arith}
use mathlib.Core.Path.{◌≡◌, refl, sym, ◌∙◌, ap}
use mathlib.Core.Bool.{Bool, true, false, cond}
use mathlib.Core.List.{List, [], ◌∷◌, ◌++◌, append_assoc}
use lib.ListN.{take}
use Rattle.std.specs.Prelude.{None, Some}
use Rattle.refusal.specs.Place.{Place, when, or_else}
use Rattle.ascii.specs.Bytes.{Split, runs}
use Rattle.fields.specs.Between.Fields.{lines_of}
use Rattle.form.specs.Between.Form.{Due, Entry, Walk, read_first, stop, walk, walk_from, whole, fits, further, bars, first_barred, kept, kept_of}
use Rattle.form.specs.Between.Reading.{outcome, Stand, going_on}
use Rattle.form.specs.Between.Reading.Outcome.{Broken, Whole}

-- the first place of three
first_of_three : (met p : Place) (b : Bool) (k : ℕ) → or_else (or_else met (when b k)) p ≡ or_else met (elim b [ true ↦ Some k | false ↦ p ])
first_of_three None p true k = refl
first_of_three None p false k = refl
first_of_three (Some n) p b k = refl

-- whole or broken, each the same
pub same_either : (b : Bool) {xs ys : List ℕ} {p q : Place} {n m : ℕ} → xs ≡ ys → p ≡ q → n ≡ m
    → cond b (Whole xs p) (Broken n) ≡ cond b (Whole ys q) (Broken m)
same_either b e f g = rw (e, f, g)

-- one line more
outcome_next : (n : ℕ) (met : Place) (xs : List ℕ) (e : Entry) (w : Walk)
    → outcome (n + 1) (or_else met (when (bars e.due e.line) (n + 1))) (xs ++ kept e.due e.line) w ≡ outcome n met xs (read_first e w)
unfolding outcome whole first_barred kept_of
outcome_next n met xs e w =
    same_either (whole w)
    (append_assoc xs (kept e.due e.line) (kept_of w.read))
    (first_of_three met (first_barred (n + 1 + 1) w.read) (bars e.due e.line) (n + 1))
    (omega arith)

-- a line is due that is not there
outcome_stopped : (n : ℕ) (met : Place) (xs l : List ℕ) (others : List (List ℕ)) (d : Due) (ds : List Due)
    → outcome n met xs (stop others l (d ∷ ds)) ≡ Broken (n + 1)
unfolding outcome whole
outcome_stopped n met xs l others d ds = ap Broken (omega arith)

-- the next line, as it fits or not
module _ (m l : List ℕ) (others : List (List ℕ)) (d : Due) (ds : List Due) where
  walk_fit : fits d l ≡ true → walk (m ∷ others) l (d ∷ ds) ≡ read_first (record { due = d; line = l }) (walk others m (further d l ++ ds))
  unfolding walk
  walk_fit e = rw (e, walk)

  walk_unfit : fits d l ≡ false → walk (m ∷ others) l (d ∷ ds) ≡ stop (m ∷ others) l (d ∷ ds)
  unfolding walk
  walk_unfit e = rw (e, walk)

-- a line that ends: the bytes l, and what stands behind its line end
abbrev pub Cut : List ℕ → List ℕ → List ℕ → Type 0
Cut bs l after = lines_of bs ≡ record { first = l; others = runs (lines_of after) }

module _ (s : Stand) where
  -- what going on finds, spelled out
  going : (ds : List Due) → going_on ds s ≡ outcome s.line s.barred (take s.count s.tape) (walk_from ds s.rest)
  unfolding going_on
  going ds = refl

  -- no line is left
  pub going_missing : (l : List ℕ) → lines_of s.rest ≡ record { first = l; others = [] } → (d : Due) (ds : List Due)
      → going_on (d ∷ ds) s ≡ Broken (s.line + 1)
  unfolding walk
  going_missing l cut d ds = going (d ∷ ds) ∙ rw cut (outcome_stopped s.line s.barred (take s.count s.tape) l [] d ds)

  -- the line, if it ends, is not what it must be
  pub going_broken : (d : Due) → ((l m : List ℕ) (others : List (List ℕ)) → lines_of s.rest ≡ record { first = l; others = m ∷ others } → fits d l ≡ false)
      → (ds : List Due) → going_on (d ∷ ds) s ≡ Broken (s.line + 1)
  going_broken d unfit ds = by_case (lines_of s.rest).first (lines_of s.rest).others refl
    where
      by_case : (l : List ℕ) (others : List (List ℕ)) → lines_of s.rest ≡ record { first = l; others = others }
          → going_on (d ∷ ds) s ≡ Broken (s.line + 1)
      by_case l [] cut = going_missing l cut d ds
      by_case l (m ∷ others) cut =
          going (d ∷ ds)
          ∙ rw (cut, walk_unfit m l others d ds (unfit l m others cut)) (outcome_stopped s.line s.barred (take s.count s.tape) l (m ∷ others) d ds)

  module _ (d : Due) (l after : List ℕ) (cut : Cut s.rest l after) where
    -- the line is what it must be
    pub going_next : fits d l ≡ true → (tape : List ℕ) (count : ℕ) (barred : Place) → take count tape ≡ take s.count s.tape ++ kept d l
        → barred ≡ or_else s.barred (when (bars d l) (s.line + 1)) → (ds : List Due)
        → going_on (further d l ++ ds) (record { rest = after; tape = tape; tape_at = s.tape_at; line = s.line + 1; count = count; barred = barred })
        ≡ going_on (d ∷ ds) s
    unfolding going_on
    going_next fit tape count barred more met ds =
        let c : Split = lines_of after in
        let w : Walk = walk_from (further d l ++ ds) after in
        rw (more, met) (
        outcome_next s.line s.barred (take s.count s.tape) (record { due = d; line = l }) w
        ∙ sym (going (d ∷ ds) ∙ rw (cut, walk_fit c.first l c.others d ds fit))
        )
