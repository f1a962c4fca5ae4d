-- A walk strikes in a state what it strikes in the state's first values, and leads to the same first values, where its actions need and read facts of those alone. By
-- list induction, since an action is applicable in both or in neither. Assumes nothing.
use Prim.Native.Nat.{ℕ, ◌≤◌, ◌<◌}
use mathlib.Core.Path.{◌≡◌, refl, ◌∙◌, ap}
use mathlib.Core.Bool.{Bool, true, false}
use mathlib.Core.List.{List, [], ◌∷◌, Memᴰ}
use lib.ListN.{length, take}
use Rattle.sas.specs.Task.{Fact, State, Effect, Action}
use Rattle.sas.specs.Plan.{applicable, apply, needs}
use Rattle.sas.proofs.ActionLaws.{apply_length}
use Rattle.sas.proofs.PartLaws.{part_applicable, part_apply}
use Rattle.reduction.specs.Reduction.{Reduction}
use Rattle.reduction.specs.Trials.{walk, after}
use Rattle.reduction.proofs.trials.TrialLaws.{walk_done, walk_struck, after_done, after_struck}

-- what an action needs, and what its conditions read, is of the first n variables
pub record Own (n : ℕ) (a : Action) : Type 0 where
  pub needed : (f : Fact) → needs a f → f.variable < n
  pub read : (e : Effect) → Memᴰ e a.effects → (f : Fact) → Memᴰ f e.condition → f.variable < n

abbrev pub OwnFacts : ℕ → List Action → Type 0
OwnFacts n p = (a : Action) → Memᴰ a p → Own n a

-- the walk of a state's first n values is the walk of the state
abbrev WalksAlike : ℕ → State → List Action → Reduction → Type 0
WalksAlike n s p m = (walk (take n s) p m ≡ walk s p m) × (after (take n s) p m ≡ take n (after s p m))

pub part_walk : (n : ℕ) (s : State) (p : List Action) (m : Reduction) → OwnFacts n p → n ≤ length s → WalksAlike n s p m
unfolding walk after
part_walk n s [] m own room = (refl, refl)
part_walk n s (a ∷ p) [] own room = (refl, refl)
part_walk n s (a ∷ p) (false ∷ m) own room =
    let (same, led) = part_walk n s p m (λ b in_rest. own b (Memᴰ.tail in_rest)) room in
    (ap (λ r. false ∷ r) same, led)
part_walk n s (a ∷ p) (true ∷ m) own room =
    by_case (part_walk n s p m (λ b in_rest. own b (Memᴰ.tail in_rest)) room)
    (part_walk n (apply s a) p m (λ b in_rest. own b (Memᴰ.tail in_rest)) (rw (apply_length s a) room)) (applicable s a) refl
  where
    alike : applicable (take n s) a ≡ applicable s a
    alike = part_applicable n s room a (own a (Memᴰ.head refl)).needed

    by_case : WalksAlike n s p m → WalksAlike n (apply s a) p m → (b : Bool) → applicable s a ≡ b → WalksAlike n s (a ∷ p) (true ∷ m)
    by_case struck done true e =
        rw (
          walk_done s a p m e,
          walk_done (take n s) a p m (alike ∙ e),
          after_done s a p m e,
          after_done (take n s) a p m (alike ∙ e),
          ← part_apply n s room a (own a (Memᴰ.head refl)).read,
          done.0,
          done.1,
        )
        (refl, refl)
    by_case struck done false e =
        rw (
          walk_struck s a p m e,
          walk_struck (take n s) a p m (alike ∙ e),
          after_struck s a p m e,
          after_struck (take n s) a p m (alike ∙ e),
          struck.0,
          struck.1,
        )
        (refl, refl)

-- a walk keeps the number of values
pub after_length : (s : State) (p : List Action) (m : Reduction) → length (after s p m) ≡ length s
unfolding after
after_length s [] m = refl
after_length s (a ∷ p) [] = refl
after_length s (a ∷ p) (false ∷ m) = after_length s p m
after_length s (a ∷ p) (true ∷ m) = by_case (after_length s p m) (after_length (apply s a) p m) (applicable s a) refl
  where
    by_case : length (after s p m) ≡ length s → length (after (apply s a) p m) ≡ length (apply s a) → (b : Bool) → applicable s a ≡ b
        → length (after s (a ∷ p) (true ∷ m)) ≡ length s
    by_case struck done true e = rw (after_done s a p m e) (done ∙ apply_length s a)
    by_case struck done false e = rw (after_struck s a p m e) struck
