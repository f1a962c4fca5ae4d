-- The facts of an assignment whose variables rise are known, of variables from its lower bound on, no more than those, and agree, so that effects with such facts
-- don't conflict and a plain action with an assignment as its precondition is one over the domains; and to assign known facts keeps a state within its
-- domains. By induction on how the variables rise, or along the facts. Assumes nothing.
use Prim.Native.Nat.{ℕ, ◌-◌, ◌≤◌, ◌<◌}
use native.Mathlib.Omega.{arith}
use mathlib.Core.Path.{◌≡◌, refl, sym, ◌∙◌, ap}
use mathlib.Core.List.Memᴰ
use mathlib.Core.List.{List, [], ◌∷◌, Memᴰ}
use mathlib.Core.Bool.{Bool, true, false}
use lib.ListN.{length, get_or, set, length-set, take, drop, take-append-drop}
use lib.Seq.{get_or-set_same, get_or-set_other}
use lib.Dec.{eqb}
use borrow.Author.Tests.{eqb-true, eqb-false, eq-eqb}
use Rattle.sas.specs.Task.{Fact, Assignment, State, Effect, always, Action}
use Rattle.sas.specs.Plan.{assign, written, may_write}
use Rattle.sas.specs.Conflict.{some_of, differ, conflict, conflicting}
use Rattle.sas.specs.Between.WellFormed.{Known, Rising, Within, Agreeing, ActionFormed, Plain}
use Rattle.sas.specs.Between.WellFormed.Rising.{empty, fact}
use Rattle.sas.proofs.SomeLaws.{none_found}

-- each action of a sequence is one over the domains
abbrev pub ActionsFormed : List ℕ → List Action → Type 0
ActionsFormed domains p = (a : Action) → Memᴰ a p → ActionFormed domains a

-- each is plain
abbrev pub ActionsPlain : List ℕ → List Action → Type 0
ActionsPlain domains p = (a : Action) → Memᴰ a p → Plain domains a

-- what holds of each action of a sequence holds of each from an index on
pub each_behind : {P : Action → Type 0} {p : List Action} → ((a : Action) → Memᴰ a p → P a) → (i : ℕ) → (a : Action) → Memᴰ a (drop i p) → P a
each_behind {p = p} each i a m = each a (rw take-append-drop at (Memᴰ.append_right (take i p) m))

pub rising_known : {domains : List ℕ} {from : ℕ} {f : Fact} {q : Assignment} → Rising domains from q → Memᴰ f q → Known domains f
rising_known empty m = elim m [ ]
rising_known (fact known above rest) (Memᴰ.head same) = rw same known
rising_known (fact known above rest) (Memᴰ.tail later) = rising_known rest later

-- the variable of each fact is `from` or above
pub rising_above : {domains : List ℕ} {from : ℕ} {f : Fact} {q : Assignment} → Rising domains from q → Memᴰ f q → from ≤ f.variable
rising_above empty m = elim m [ ]
rising_above (fact known above rest) (Memᴰ.head same) = rw same above
rising_above (fact known above rest) (Memᴰ.tail later) = omega (arith, rising_above rest later)

-- there are no more facts than variables from `from` on
pub rising_few : {domains : List ℕ} {from : ℕ} {q : Assignment} → Rising domains from q → length q ≤ length domains - from
rising_few empty = omega arith
rising_few (fact known above rest) = omega (arith, known.variable, rising_few rest)

-- each variable is named once, so the facts agree
pub rising_agrees : {domains : List ℕ} {from : ℕ} {q : Assignment} → Rising domains from q → Agreeing q
rising_agrees empty f g m n same = elim m [ ]
rising_agrees (fact known above rest) f g (Memᴰ.head one) (Memᴰ.head two) same = rw (one, two)
rising_agrees (fact known above rest) f g (Memᴰ.head one) (Memᴰ.tail two) same = absurd (omega (arith, ap (λ k. k.variable) one, rising_above rest two))
rising_agrees (fact known above rest) f g (Memᴰ.tail one) (Memᴰ.head two) same = absurd (omega (arith, ap (λ k. k.variable) two, rising_above rest one))
rising_agrees (fact known above rest) f g (Memᴰ.tail one) (Memᴰ.tail two) same = rising_agrees rest f g one two same

-- what a plain action may write is known
pub plain_known : {domains : List ℕ} {a : Action} {f : Fact} → Plain domains a → may_write a f → Known domains f
plain_known plain w = rising_known plain.rising w

-- and agrees
pub plain_agrees : {domains : List ℕ} {a : Action} → Plain domains a → Agreeing (written a)
plain_agrees plain = rising_agrees plain.rising

-- effects whose facts agree don't conflict
pub agreeing_consistent : (a : Action) → Agreeing (written a) → conflicting a ≡ false
unfolding conflicting conflict differ written
agreeing_consistent a agree = none_found (λ d. some_of (conflict a.precondition d) a.effects) a.effects (λ d m. none_found (conflict a.precondition d) a.effects (λ e n. pair d e m n))
  where
    pair : (d e : Effect) → Memᴰ d a.effects → Memᴰ e a.effects → conflict a.precondition d e ≡ false
    pair d e m n = by_case (eqb d.fact.variable e.fact.variable) refl
      where
        by_case : (b : Bool) → eqb d.fact.variable e.fact.variable ≡ b → conflict a.precondition d e ≡ false
        by_case false h = rw h
        by_case true h =
            let value : d.fact.value ≡ e.fact.value = agree d.fact e.fact (Memᴰ.map (λ x. x.fact) m) (Memᴰ.map (λ x. x.fact) n) (eqb-true _ _ h) in
            rw (h, eq-eqb d.fact.value e.fact.value value)

-- the conditions of a plain action's effects are empty
pub plain_conditions : {domains : List ℕ} {a : Action} → Plain domains a → (e : Effect) → Memᴰ e a.effects → e.condition ≡ []
plain_conditions {a = a} plain e m = let (f, n, same) = Memᴰ.of_map always (written a) (rw plain.without_condition at m) in ap (λ x. x.condition) (sym same)

-- and with an assignment as its precondition it is one over the domains
pub plain_formed : {domains : List ℕ} (a : Action) → Rising domains 0 a.precondition → Plain domains a → ActionFormed domains a
plain_formed a precondition plain =
    record {
      precondition = precondition;
      conditions = λ e m. rw (plain_conditions plain e m) empty;
      known = λ f w. plain_known plain w;
      consistent = agreeing_consistent a (plain_agrees plain);
    }

-- a known fact's variable may be set to its value
set_within : {domains : List ℕ} {s : State} {f : Fact} → Known domains f → Within domains s → Within domains (set s f.variable f.value)
set_within {domains} {s} {f} known within =
    record { complete = length-set s f.variable f.value ∙ within.complete; below = λ v h. by_case v h (eqb v f.variable) refl }
  where
    by_case : (v : ℕ) → v < length domains → (b : Bool) → eqb v f.variable ≡ b → get_or (set s f.variable f.value) v 0 < get_or domains v 0
    by_case v h true e =
        let here : f.variable < length s = omega (arith, within.complete, known.variable) in
        rw (eqb-true v f.variable e, get_or-set_same s f.variable f.value 0 here) known.value
    by_case v h false e = rw (get_or-set_other s f.variable v f.value 0 (eqb-false _ _ e)) (within.below v h)

pub assign_within : {domains : List ℕ} {s : State} (e : Assignment) → ((f : Fact) → Memᴰ f e → Known domains f) → Within domains s
    → Within domains (assign s e)
unfolding assign
assign_within [] known within = within
assign_within (f ∷ e) known within = assign_within e (λ g m. known g (Memᴰ.tail m)) (set_within (known f (Memᴰ.head refl)) within)
