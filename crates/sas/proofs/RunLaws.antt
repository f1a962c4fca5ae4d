-- What a sequence of actions does, by the cases of its first action and over two sequences joined; and in a well-formed task it never leaves the
-- domains, by list induction. Assumes nothing.
use Prim.Native.Nat.{ℕ}
use mathlib.Core.Path.{◌≡◌, refl, sym, ◌∙◌, ap}
use mathlib.Core.Bool.{true}
use mathlib.Core.Option.{Option, none, some, some-ne-none}
use mathlib.Core.List.{List, [], ◌∷◌, ◌++◌, Memᴰ}
use Rattle.sas.specs.Task.{State, Action, Task}
use Rattle.sas.specs.Plan.{applicable, acting, apply, result, run}
use Rattle.sas.specs.Between.WellFormed.{Within, ActionFormed, WellFormed}
use Rattle.sas.proofs.WellFormedLaws.{ActionsFormed, assign_within}
use Rattle.sas.proofs.EffectLaws.{acting_written}
use Rattle.sas.proofs.ActionLaws.{result_applied, result_assigned}

pub run_nothing : (s : State) → run s [] ≡ some s
unfolding run
run_nothing s = refl

-- no action, no change
pub run_end : (s t : State) → run s [] ≡ some t → s ≡ t
run_end s t h = cc (run_nothing s)

pub run_result : (s t : State) (a : Action) (p : List Action) → result s a ≡ some t → run s (a ∷ p) ≡ run t p
unfolding run
run_result s t a p h = rw (h, run)

pub run_no_result : (s : State) (a : Action) (p : List Action) → result s a ≡ none → run s (a ∷ p) ≡ none
unfolding run
run_no_result s a p h = rw (h, run)

pub run_applied : (s : State) (a : Action) (p : List Action) → applicable s a ≡ true → run s (a ∷ p) ≡ run (apply s a) p
run_applied s a p h = run_result s (apply s a) a p (result_applied s a h)

-- the first action of a sequence that runs has a result, from which the rest runs
pub run_first : {u : State} (s : State) (a : Action) (p : List Action) → run s (a ∷ p) ≡ some u
    → (t : State) × (result s a ≡ some t) × (run t p ≡ some u)
run_first {u} s a p h = by_case (result s a) refl
  where
    by_case : (r : Option State) → result s a ≡ r → (t : State) × (result s a ≡ some t) × (run t p ≡ some u)
    by_case none e = absurd (some-ne-none u (sym h ∙ run_no_result s a p e))
    by_case (some t) e = (t, e, sym (run_result s t a p e) ∙ h)

pub run_append : (s t : State) (p q : List Action) → run s p ≡ some t → run s (p ++ q) ≡ run t q
run_append s t [] q h = ap (λ x. run x q) (run_end s t h)
run_append s t (a ∷ p) q h = let (u, first, rest) = run_first s a p h in run_result s u a (p ++ q) first ∙ run_append u t p q rest

-- an action over the domains keeps a state within them
pub result_within : {domains : List ℕ} {s t : State} (a : Action) → ActionFormed domains a → Within domains s → result s a ≡ some t → Within domains t
unfolding apply
result_within {s} a formed within h =
    rw (result_assigned s a h) (assign_within (acting s a.effects) (λ f m. formed.known f (acting_written s a m)) within)

run_stays_within : {domains : List ℕ} {s t : State} (p : List Action) → ActionsFormed domains p → Within domains s → run s p ≡ some t → Within domains t
run_stays_within {s} {t} [] formed within h = rw (run_end s t h) at within
run_stays_within {s} (a ∷ p) formed within h =
    let (u, first, rest) = run_first s a p h in
    run_stays_within {s = u} p (λ b m. formed b (Memᴰ.tail m)) (result_within a (formed a (Memᴰ.head refl)) within first) rest

-- a state that actions of a well-formed task reach from its initial state is within the domains
pub run_within : {s : State} (T : Task) → WellFormed T → (p : List Action)
    → ((a : Action) → Memᴰ a p → Memᴰ a T.actions) → run T.initial p ≡ some s → Within T.domains s
run_within T formed p known h = run_stays_within p (λ a m. formed.actions a (known a m)) formed.initial h
