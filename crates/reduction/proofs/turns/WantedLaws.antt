-- Which facts are wanted behind a step, and that those hold in every valid reduction that keeps the flagged steps: the goal needs them at the end or a
-- kept step before it, and what no step between writes held before. By one walk along the steps. Assumes nothing.
use Prim.Native.Nat.{ℕ, suc}
use native.Mathlib.Omega.{arith}
use mathlib.Core.Path.{◌≡◌, refl}
use mathlib.Core.Logic.{◌⊎◌, inl, inr, ⊎_elim}
use mathlib.Core.Bool.{Bool, true, false, false≢true, not, ◌&&◌, and-eq-true_iff, or-true}
use mathlib.Core.Option.{some}
use mathlib.Core.List.{List, [], ◌∷◌}
use lib.ListN.{length, get_or, drop}
use borrow.Author.Tests.{not-true}
use Rattle.sas.specs.Task.{Fact, Assignment, State, Action}
use Rattle.sas.specs.Plan.{holds, satisfies, result, written, needed, may_write, needs}
use Rattle.sas.proofs.FactLaws.{satisfied_holds}
use Rattle.sas.proofs.ActionLaws.{idle_needs_nothing, result_applicable, needed_holds, written_or_held}
use Rattle.reduction.specs.Reduction.{Reduction, keeps, kept, valid_for}
use Rattle.reduction.specs.Between.Order.{Contains}
use Rattle.reduction.specs.Landmark.{step}
use Rattle.reduction.specs.Between.Wanted.{has, wanted}
use Rattle.reduction.proofs.ValidLaws.{valid_end, valid_first}
use Rattle.reduction.proofs.MemberLaws.{has_member, member_has, has_no_member, no_member_has}
use Rattle.sas.proofs.SomeLaws.{or_cases}

pub keeps_later : (m : Reduction) (i : ℕ) → get_or (drop 1 m) i false ≡ get_or m (suc i) false
keeps_later [] i = refl
keeps_later (b ∷ m) i = refl

-- a fact that is wanted is needed by a flagged first step; or the first step does not write it, and it is wanted behind it
pub wanted_cases : (goal : Assignment) (a : Action) (p : List Action) (m : Reduction) (f : Fact) → wanted goal (a ∷ p) m f ≡ true
    → (keeps m 0 × needs a f) ⊎ ((may_write a f → ⊥) × (wanted goal p (drop 1 m) f ≡ true))
unfolding wanted
wanted_cases goal a p m f h = ⊎_elim (λ x. inl (here x)) (λ x. inr (later x)) (or_cases (get_or m 0 false && has (needed a) f) _ h)
  where
    here : (get_or m 0 false && has (needed a) f) ≡ true → keeps m 0 × needs a f
    here x = let (flagged, need) = (and-eq-true_iff (get_or m 0 false) (has (needed a) f)).0 x in (flagged, has_member (needed a) f need)

    later : (not (has (written a) f) && wanted goal p (drop 1 m) f) ≡ true → (may_write a f → ⊥) × (wanted goal p (drop 1 m) f ≡ true)
    later x =
        let (unwritten, behind) = (and-eq-true_iff (not (has (written a) f)) (wanted goal p (drop 1 m) f)).0 x in
        (has_no_member (written a) f (not-true _ unwritten), behind)

-- a fact that holds after a step that may not write it held before
held_before : {t : State} (s : State) (a : Action) → result s a ≡ some t → (f : Fact) → (may_write a f → ⊥) → holds t f ≡ true → holds s f ≡ true
held_before s a done f unwritten h = ⊎_elim (λ written. absurd (unwritten written)) (λ held. held) (written_or_held s a done f h)

-- in a valid reduction that keeps the flagged steps a wanted fact holds, whatever the test at the end, if goal facts hold where it passes
pub wanted_holds : (ends : State → Bool) (goal : Assignment) → ((t : State) → ends t ≡ true → satisfies t goal ≡ true)
    → (s : State) (p : List Action) (r m : Reduction) (f : Fact) → length r ≡ length p → valid_for ends s (kept r p) ≡ true
    → Contains r m → wanted goal p m f ≡ true → holds s f ≡ true
unfolding kept wanted
wanted_holds ends goal met s [] r m f fits v c w = satisfied_holds s (met s (valid_end ends s v)) (has_member goal f w)
wanted_holds ends goal met s (a ∷ p) [] m f fits v c w = absurd (omega arith)
wanted_holds ends goal met s (a ∷ p) (false ∷ r) m f fits v c w =
    ⊎_elim
    (λ (flagged, need). absurd (false≢true (c 0 flagged)))
    (λ (unwritten, behind). wanted_holds ends goal met s p r (drop 1 m) f (omega arith) v (λ i k. c (suc i) (rw keeps_later at k)) behind)
    (wanted_cases goal a p m f w)
wanted_holds ends goal met s (a ∷ p) (true ∷ r) m f fits v c w =
    let (t, done, rest) = valid_first ends s a (kept r p) v in
    ⊎_elim
    (λ (flagged, need). needed_holds s a (result_applicable s a done) need)
    (λ (unwritten, behind).
    held_before s a done f unwritten
    (wanted_holds ends goal met t p r (drop 1 m) f (omega arith) rest (λ i k. c (suc i) (rw keeps_later at k)) behind))
    (wanted_cases goal a p m f w)

-- a fact that the first step does not write and that is wanted behind it is wanted before it
pub wanted_before : (goal : Assignment) (a : Action) (p : List Action) (m : Reduction) (f : Fact) → (may_write a f → ⊥) → wanted goal p (drop 1 m) f ≡ true
    → wanted goal (a ∷ p) m f ≡ true
unfolding wanted
wanted_before goal a p m f unwritten h = rw (no_member_has (written a) f unwritten, h, or-true)

-- what a flagged first step needs is wanted
pub first_wanted : (goal : Assignment) (p : List Action) (m : Reduction) (f : Fact) → keeps m 0 → needs (step p 0) f → wanted goal p m f ≡ true
unfolding wanted
first_wanted goal [] m f k need = absurd (idle_needs_nothing need)
first_wanted goal (a ∷ p) m f k need = rw (k, member_has need)
