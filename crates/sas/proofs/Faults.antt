-- A sequence of actions that reaches no state is stuck at just one position, and one that is stuck reaches none: the position is that of the first
-- action that is not applicable where the ones before it lead, found by one walk along the sequence. Assumes nothing.
use Prim.Native.Nat.{ℕ, suc, ◌+◌}
use native.Mathlib.Omega.{arith}
use mathlib.Core.Path.{◌≡◌, refl, sym, ◌∙◌, ap}
use mathlib.Core.Bool.{false}
use mathlib.Core.Option.{Option, none, some, some-ne-none}
use mathlib.Core.List.{List, [], ◌∷◌, ◌++◌}
use lib.ListN.{length}
use Rattle.sas.specs.Task.{State, Action}
use Rattle.sas.specs.Plan.{applicable, result, run, Stuck}
use Rattle.sas.proofs.ActionLaws.{result_stuck, no_result_inapplicable}
use Rattle.sas.proofs.RunLaws.{run_nothing, run_end, run_result, run_first}

-- the position of the first action that has no result where those before it lead, and past the end if there is none
position : State → List Action → ℕ
position s [] = 1
position s (a ∷ p) = elim (result s a) [ none ↦ 1 | some t ↦ suc (position t p) ]

position_here : (s : State) (a : Action) (p : List Action) → result s a ≡ none → position s (a ∷ p) ≡ 1
unfolding position
position_here s a p h = rw (h, position)

position_later : (s t : State) (a : Action) (p : List Action) → result s a ≡ some t → position s (a ∷ p) ≡ suc (position t p)
unfolding position
position_later s t a p h = rw (h, position)

-- it is the one at which a sequence is stuck
position_found : (s before : State) (earlier : List Action) (here : Action) (later : List Action) → run s earlier ≡ some before → applicable before here ≡ false
    → position s (earlier ++ (here ∷ later)) ≡ length earlier + 1
position_found s before [] here later reached h = position_here s here later (result_stuck s here (rw (run_end s before reached) h))
position_found s before (a ∷ earlier) here later reached h =
    let (t, first, rest) = run_first s a earlier reached in
    position_later s t a (earlier ++ (here ∷ later)) first ∙ omega (arith, position_found t before earlier here later rest h)

stuck_at_position : {s : State} {p : List Action} {i : ℕ} → Stuck s p i → i ≡ position s p
stuck_at_position {s} k =
    rw k.parts (k.position ∙ sym (position_found s k.before k.earlier k.here k.later k.reached k.not_applicable))

pub stuck_once : {s : State} {p : List Action} {i j : ℕ} → Stuck s p i → Stuck s p j → i ≡ j
stuck_once k l = stuck_at_position k ∙ sym (stuck_at_position l)

-- what is stuck from the result of an action is stuck, one position later, from the state before
stuck_later : {s t : State} {p : List Action} {i : ℕ} (a : Action) → result s a ≡ some t → Stuck t p i → Stuck s (a ∷ p) (i + 1)
stuck_later {s} {t} a first k =
    record {
      earlier = a ∷ k.earlier;
      here = k.here;
      later = k.later;
      before = k.before;
      parts = ap (λ q. a ∷ q) k.parts;
      position = omega (arith, k.position);
      reached = run_result s t a k.earlier first ∙ k.reached;
      not_applicable = k.not_applicable;
    }

pub none_stuck : (s : State) (p : List Action) → run s p ≡ none → (i : ℕ) × Stuck s p i
none_stuck s [] h = absurd (some-ne-none s (sym (run_nothing s) ∙ h))
none_stuck s (a ∷ p) h = by_case (λ t. none_stuck t p) (result s a) refl
  where
    stuck_here : applicable s a ≡ false → Stuck s (a ∷ p) 1
    stuck_here e = record { earlier = []; here = a; later = p; before = s; parts = refl; position = refl; reached = run_nothing s; not_applicable = e }

    by_case : ((t : State) → run t p ≡ none → (i : ℕ) × Stuck t p i) → (r : Option State) → result s a ≡ r → (i : ℕ) × Stuck s (a ∷ p) i
    by_case below none e = (1, stuck_here (no_result_inapplicable s a e))
    by_case below (some t) e = let (i, k) = below t (sym (run_result s t a p e) ∙ h) in (i + 1, stuck_later a e k)
