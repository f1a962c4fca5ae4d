-- What is struck of a reduction, and what is left of it: together they are the reduction, in cost and in number. By one walk along both. Assumes nothing.
use Prim.Native.Nat.{ℕ, zero, suc, ◌+◌}
use native.Mathlib.Omega.{arith}
use mathlib.Core.Path.{◌≡◌, refl}
use mathlib.Core.Bool.{true, false, false≢true}
use mathlib.Core.List.{List, [], ◌∷◌}
use lib.ListN.{set}
use Rattle.sas.specs.Task.{Action}
use Rattle.sas.specs.Plan.{cost}
use Rattle.reduction.specs.Reduction.{Reduction, kept, count}
use Rattle.reduction.specs.Between.Order.{Contains}
use Rattle.reduction.specs.Trials.{struck_from}
use Rattle.reduction.proofs.ReductionLaws.{kept_none}

pub struck_steps : (m x : Reduction) → Contains m x → count (struck_from m x) + count x ≡ count m
unfolding count struck_from
struck_steps [] [] h = refl
struck_steps [] (true ∷ x) h = absurd (false≢true (h 0 refl))
struck_steps [] (false ∷ x) h = struck_steps [] x (λ i. h (suc i))
struck_steps (true ∷ m) [] h = omega (arith, struck_steps m [] (λ i. h (suc i)))
struck_steps (false ∷ m) [] h = struck_steps m [] (λ i. h (suc i))
struck_steps (true ∷ m) (true ∷ x) h = omega (arith, struck_steps m x (λ i. h (suc i)))
struck_steps (true ∷ m) (false ∷ x) h = omega (arith, struck_steps m x (λ i. h (suc i)))
struck_steps (false ∷ m) (true ∷ x) h = absurd (false≢true (h 0 refl))
struck_steps (false ∷ m) (false ∷ x) h = struck_steps m x (λ i. h (suc i))

pub struck_cost : (p : List Action) (m x : Reduction) → Contains m x → cost (kept (struck_from m x) p) + cost (kept x p) ≡ cost (kept m p)
unfolding cost kept struck_from
struck_cost [] m x h = refl
struck_cost (a ∷ p) [] [] h = refl
struck_cost (a ∷ p) [] (true ∷ x) h = absurd (false≢true (h 0 refl))
struck_cost (a ∷ p) [] (false ∷ x) h = rw kept_none at (struck_cost p [] x (λ i. h (suc i)))
struck_cost (a ∷ p) (true ∷ m) [] h = omega (arith, rw kept_none at (struck_cost p m [] (λ i. h (suc i))))
struck_cost (a ∷ p) (false ∷ m) [] h = rw kept_none at (struck_cost p m [] (λ i. h (suc i)))
struck_cost (a ∷ p) (true ∷ m) (true ∷ x) h = omega (arith, struck_cost p m x (λ i. h (suc i)))
struck_cost (a ∷ p) (true ∷ m) (false ∷ x) h = omega (arith, struck_cost p m x (λ i. h (suc i)))
struck_cost (a ∷ p) (false ∷ m) (true ∷ x) h = absurd (false≢true (h 0 refl))
struck_cost (a ∷ p) (false ∷ m) (false ∷ x) h = struck_cost p m x (λ i. h (suc i))

-- a reduction contains itself with one step struck
pub contains_struck : (m : Reduction) (i : ℕ) → Contains m (set m i false)
contains_struck [] i j k = k
contains_struck (b ∷ m) zero zero k = absurd (false≢true k)
contains_struck (b ∷ m) zero (suc j) k = k
contains_struck (b ∷ m) (suc i) zero k = k
contains_struck (b ∷ m) (suc i) (suc j) k = contains_struck m i j k
