-- What `assign` does to a state: it keeps the length and every variable that it does not name, a fact that holds after it was assigned or held
-- before, and where its facts agree each fact assigned holds after it. By list induction, one `set` at a time. Assumes nothing.
use Prim.Native.Nat.{ℕ, ◌<◌}
use mathlib.Core.Path.{◌≡◌, refl, sym, ◌∙◌, ap}
use mathlib.Core.Logic.{◌⊎◌, inl, inr, ⊎_elim, ◌≢◌}
use mathlib.Core.Bool.{Bool, true, false}
use mathlib.Core.List.{[], ◌∷◌, Memᴰ}
use lib.ListN.{length, get_or, set, length-set}
use lib.Seq.{get_or-set_same, get_or-set_other}
use lib.Dec.{eqb}
use borrow.Author.Tests.{eqb-true, eqb-false}
use Rattle.sas.specs.Task.{Fact, Assignment, State}
use Rattle.sas.specs.Plan.{holds, assign}
use Rattle.sas.specs.Between.WellFormed.{Agreeing}
use Rattle.sas.proofs.FactLaws.{holds_variable, holds_value, holds_there}

pub assign_length : (s : State) (e : Assignment) → length (assign s e) ≡ length s
unfolding assign
assign_length s [] = refl
assign_length s (f ∷ e) = assign_length (set s f.variable f.value) e ∙ length-set s f.variable f.value

-- a fact that holds after one variable is set is what was set, or held before
set_or_held : (s : State) (g f : Fact) → holds (set s g.variable g.value) f ≡ true → (f ≡ g) ⊎ (holds s f ≡ true)
set_or_held s g f h = by_case (eqb f.variable g.variable) refl
  where
    t : State
    t = set s g.variable g.value

    below : f.variable < length s
    below = rw length-set at (holds_variable t f h)

    set_there : f.variable ≡ g.variable → f.value ≡ g.value
    set_there same = sym (holds_value t f h) ∙ ap (λ v. get_or t v 0) same ∙ get_or-set_same s g.variable g.value 0 (rw same at below)

    by_case : (b : Bool) → eqb f.variable g.variable ≡ b → (f ≡ g) ⊎ (holds s f ≡ true)
    by_case true e = let same : f.variable ≡ g.variable = eqb-true _ _ e in inl (λ i. record { variable = same i; value = set_there same i })
    by_case false e = inr (holds_there s f below (sym (get_or-set_other s g.variable f.variable g.value 0 (eqb-false _ _ e)) ∙ holds_value t f h))

-- a fact that holds after an assignment was assigned, or held before
pub assigned_or_held : (s : State) (e : Assignment) (f : Fact) → holds (assign s e) f ≡ true → Memᴰ f e ⊎ (holds s f ≡ true)
unfolding assign
assigned_or_held s [] f h = inr h
assigned_or_held s (g ∷ e) f h =
    ⊎_elim
    (λ later. inl (Memᴰ.tail later))
    (λ held. ⊎_elim (λ same. inl (Memᴰ.head same)) inr (set_or_held s g f held))
    (assigned_or_held (set s g.variable g.value) e f h)

-- a variable that an assignment does not name keeps its value
pub assign_other : (s : State) (e : Assignment) (v : ℕ) → ((f : Fact) → Memᴰ f e → f.variable ≢ v) → get_or (assign s e) v 0 ≡ get_or s v 0
unfolding assign
assign_other s [] v h = refl
assign_other s (g ∷ e) v h =
    assign_other (set s g.variable g.value) e v (λ f m. h f (Memᴰ.tail m))
    ∙ get_or-set_other s g.variable v g.value 0 (λ same. h g (Memᴰ.head refl) (sym same))

-- a fact that holds stays so under facts that give its variable no other value
stays_held : (s : State) (e : Assignment) (f : Fact) → holds s f ≡ true → ((g : Fact) → Memᴰ g e → g.variable ≡ f.variable → g.value ≡ f.value)
    → holds (assign s e) f ≡ true
unfolding assign
stays_held s [] f h agree = h
stays_held s (g ∷ e) f h agree = stays_held (set s g.variable g.value) e f (by_case (eqb f.variable g.variable) refl) (λ k m. agree k (Memᴰ.tail m))
  where
    below : f.variable < length s
    below = holds_variable s f h

    sized : f.variable < length (set s g.variable g.value)
    sized = rw length-set below

    by_case : (b : Bool) → eqb f.variable g.variable ≡ b → holds (set s g.variable g.value) f ≡ true
    by_case true e =
        let same : f.variable ≡ g.variable = eqb-true _ _ e in
        holds_there _ f sized
        (ap (λ v. get_or (set s g.variable g.value) v 0) same
        ∙ get_or-set_same s g.variable g.value 0 (rw same at below)
        ∙ agree g (Memᴰ.head refl) (sym same))
    by_case false e = holds_there _ f sized (get_or-set_other s g.variable f.variable g.value 0 (eqb-false _ _ e) ∙ holds_value s f h)

-- where facts agree, each fact assigned holds after the assignment
pub assigned_holds : {f : Fact} {e : Assignment} (s : State) → Agreeing e → Memᴰ f e → f.variable < length s → holds (assign s e) f ≡ true
unfolding assign
assigned_holds {f = f} s agree (Memᴰ.head {x = g} {xs = e} same) below =
    rw same
    (stays_held (set s g.variable g.value) e g
    (holds_there _ g (rw length-set (rw same at below)) (get_or-set_same s g.variable g.value 0 (rw same at below)))
    (λ k m. agree k g (Memᴰ.tail m) (Memᴰ.head refl)))
assigned_holds s agree (Memᴰ.tail {x = g} later) below =
    assigned_holds (set s g.variable g.value) (λ h k m n. agree h k (Memᴰ.tail m) (Memᴰ.tail n)) later (simp length-set below)
