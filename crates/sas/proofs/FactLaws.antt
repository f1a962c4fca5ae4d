-- When a fact holds, and what `satisfies` says of the facts of an assignment: by the cases of its first fact, by the first that fails, from the back, and
-- by membership, by list induction. Assumes nothing.
use Prim.Native.Nat.{◌≤◌, ◌<◌}
use mathlib.Core.Path.{◌≡◌, refl, sym, ◌∙◌, ap}
use mathlib.Core.Bool.{Bool, true, false, true≢false, ◌&&◌, and-eq-true_iff, and-true, and_assoc, and_comm}
use mathlib.Core.Option.{none, some}
use mathlib.Core.List.{[], ◌∷◌, ◌++◌, reverse, reverse-cons, Memᴰ}
use lib.ListN.{length, get_or}
use lib.Dec.{ltb, eqb}
use borrow.Author.Tests.{ltb-true, eqb-true, lt-ltb, le-ltb, eq-eqb}
use Rattle.sas.specs.Task.{Fact, Assignment, State}
use Rattle.sas.specs.Plan.{holds, first_failing, satisfies}

-- where a fact holds, the state has its variable
pub holds_variable : (s : State) (f : Fact) → holds s f ≡ true → f.variable < length s
unfolding holds
holds_variable s f h = ltb-true _ _ ((and-eq-true_iff (ltb f.variable (length s)) (eqb (get_or s f.variable 0) f.value)).0 h).0

-- and the variable has its value
pub holds_value : (s : State) (f : Fact) → holds s f ≡ true → get_or s f.variable 0 ≡ f.value
unfolding holds
holds_value s f h = eqb-true _ _ ((and-eq-true_iff (ltb f.variable (length s)) (eqb (get_or s f.variable 0) f.value)).0 h).1

pub holds_there : (s : State) (f : Fact) → f.variable < length s → get_or s f.variable 0 ≡ f.value → holds s f ≡ true
unfolding holds
holds_there s f h e = rw (lt-ltb _ _ h, eq-eqb _ _ e)

-- a fact of a variable that the state has
pub holds_known : (s : State) (f : Fact) → f.variable < length s → holds s f ≡ eqb (get_or s f.variable 0) f.value
unfolding holds
holds_known s f h = rw (lt-ltb f.variable (length s) h)

-- a fact of a variable that the state has not
pub holds_unknown : (s : State) (f : Fact) → length s ≤ f.variable → holds s f ≡ false
unfolding holds
holds_unknown s f h = rw (le-ltb f.variable (length s) h)

pub first_failing_nothing : (s : State) → first_failing s [] ≡ none
unfolding first_failing
first_failing_nothing s = refl

-- a fact that holds is passed
pub first_failing_more : (s : State) (f : Fact) (q : Assignment) → holds s f ≡ true → first_failing s (f ∷ q) ≡ first_failing s q
unfolding first_failing
first_failing_more s f q h = rw (h, first_failing)

-- one that does not is the first
pub first_failing_here : (s : State) (f : Fact) (q : Assignment) → holds s f ≡ false → first_failing s (f ∷ q) ≡ some f
unfolding first_failing
first_failing_here s f q h = rw (h, first_failing)

pub satisfies_nothing : (s : State) → satisfies s [] ≡ true
unfolding satisfies
satisfies_nothing s = refl

pub satisfies_more : (s : State) (f : Fact) (q : Assignment) → holds s f ≡ true → satisfies s (f ∷ q) ≡ satisfies s q
unfolding satisfies
satisfies_more s f q h = ap (λ b. b && satisfies s q) h

pub satisfies_failing : (s : State) (f : Fact) (q : Assignment) → holds s f ≡ false → satisfies s (f ∷ q) ≡ false
unfolding satisfies
satisfies_failing s f q h = ap (λ b. b && satisfies s q) h

-- an assignment is satisfied just where no fact fails
pub none_fails : (s : State) (q : Assignment) → satisfies s q ≡ elim (first_failing s q) [ none ↦ true | some f ↦ false ]
none_fails s [] = rw (first_failing_nothing s) (satisfies_nothing s)
none_fails s (f ∷ q) = by_case (none_fails s q) (holds s f) refl
  where
    by_case : satisfies s q ≡ elim (first_failing s q) [ none ↦ true | some g ↦ false ] → (b : Bool) → holds s f ≡ b
        → satisfies s (f ∷ q) ≡ elim (first_failing s (f ∷ q)) [ none ↦ true | some g ↦ false ]
    by_case rest true e = rw (first_failing_more s f q e) (satisfies_more s f q e ∙ rest)
    by_case rest false e = rw (first_failing_here s f q e) (satisfies_failing s f q e)

-- facts that are joined are satisfied where those of both are
satisfies_joined : (s : State) (p q : Assignment) → satisfies s (p ++ q) ≡ (satisfies s p && satisfies s q)
unfolding satisfies
satisfies_joined s [] q = refl
satisfies_joined s (f ∷ p) q = ap (λ b. holds s f && b) (satisfies_joined s p q) ∙ sym (and_assoc (holds s f) (satisfies s p) (satisfies s q))

-- so it is the same from the back
pub satisfies_reversed : (s : State) (q : Assignment) → satisfies s (reverse q) ≡ satisfies s q
unfolding satisfies
satisfies_reversed s [] = refl
satisfies_reversed s (f ∷ q) =
    ap (satisfies s) (reverse-cons f q)
    ∙ satisfies_joined s (reverse q) (f ∷ [])
    ∙ rw (and-true (holds s f), satisfies_reversed s q) (and_comm (satisfies s q) (holds s f))

-- the first fact of a satisfied assignment holds
pub satisfies_first : (s : State) (f : Fact) (q : Assignment) → satisfies s (f ∷ q) ≡ true → holds s f ≡ true
satisfies_first s f q h = by_case (holds s f) refl
  where
    by_case : (b : Bool) → holds s f ≡ b → holds s f ≡ true
    by_case true e = e
    by_case false e = absurd (true≢false (sym h ∙ satisfies_failing s f q e))

-- and its others are satisfied
pub satisfies_rest : (s : State) (f : Fact) (q : Assignment) → satisfies s (f ∷ q) ≡ true → satisfies s q ≡ true
satisfies_rest s f q h = sym (satisfies_more s f q (satisfies_first s f q h)) ∙ h

-- every fact of a satisfied assignment holds
pub satisfied_holds : {f : Fact} {q : Assignment} (s : State) → satisfies s q ≡ true → Memᴰ f q → holds s f ≡ true
satisfied_holds s h (Memᴰ.head {x = g} {xs = q} e) = rw e (satisfies_first s g q h)
satisfied_holds s h (Memᴰ.tail {x = g} {xs = q} m) = satisfied_holds s (satisfies_rest s g q h) m

-- an assignment all of whose facts hold is satisfied
pub all_satisfied : (s : State) (q : Assignment) → ((f : Fact) → Memᴰ f q → holds s f ≡ true) → satisfies s q ≡ true
all_satisfied s [] h = satisfies_nothing s
all_satisfied s (f ∷ q) h = satisfies_more s f q (h f (Memᴰ.head refl)) ∙ all_satisfied s q (λ g m. h g (Memᴰ.tail m))
