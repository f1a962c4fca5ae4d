-- A list with its start step and its end step: which step stands at each position, and that the start step writes just the facts that its state holds. By list
-- induction. Assumes nothing.
use Prim.Native.Nat.{ℕ, zero, suc, ◌+◌, ◌<◌}
use native.Mathlib.Omega.{arith}
use mathlib.Core.Path.{◌≡◌, refl, sym, ◌∙◌, ap}
use mathlib.Core.Bool.{Bool, true, false, true≢false}
use mathlib.Core.List.Memᴰ
use mathlib.Core.List.{List, [], ◌∷◌, ◌++◌, Memᴰ}
use lib.ListN.{length, get_or}
use Rattle.sas.specs.Task.{Fact, Assignment, State, Action, idle}
use Rattle.sas.specs.Plan.{holds, written, written_always, needed, may_write, always_writes, needs}
use Rattle.sas.proofs.FactLaws.{holds_variable, holds_value, holds_there}
use Rattle.sas.proofs.EffectLaws.{each_always}
use Rattle.reduction.specs.Landmark.{step, values_from, start_step, end_step, framed, WritesOther}

-- the steps of a list that has one more behind its last
before_end : (p : List Action) (a : Action) (i : ℕ) → i < length p → step (p ++ (a ∷ [])) i ≡ step p i
before_end [] a i h = absurd (omega arith)
before_end (b ∷ p) a zero h = refl
before_end (b ∷ p) a (suc i) h = before_end p a i (omega arith)

at_end : (p : List Action) (a : Action) → step (p ++ (a ∷ [])) (length p) ≡ a
at_end [] a = refl
at_end (b ∷ p) a = at_end p a

past_end : (p : List Action) (a : Action) (i : ℕ) → length p < i → step (p ++ (a ∷ [])) i ≡ idle
past_end [] a zero h = absurd (omega arith)
past_end [] a (suc i) h = refl
past_end (b ∷ p) a zero h = absurd (omega arith)
past_end (b ∷ p) a (suc i) h = past_end p a i (omega arith)

module _ (s : State) (goal : Assignment) (p : List Action) where
  pub framed_start : step (framed s goal p) 0 ≡ start_step s
  unfolding framed
  framed_start = refl

  pub framed_step : (i : ℕ) → i < length p → step (framed s goal p) (suc i) ≡ step p i
  unfolding framed
  framed_step i h = before_end p (end_step goal) i h

  pub framed_end : step (framed s goal p) (suc (length p)) ≡ end_step goal
  unfolding framed
  framed_end = at_end p (end_step goal)

  pub framed_past : (i : ℕ) → length p < i → step (framed s goal p) (suc i) ≡ idle
  unfolding framed
  framed_past i h = past_end p (end_step goal) i h

-- the facts of a state from variable v on
value_why : {g : Fact} (v : ℕ) (s : State) → Memᴰ g (values_from v s) → (k : ℕ) × (k < length s) × (g.variable ≡ v + k) × (g.value ≡ get_or s k 0)
unfolding values_from
value_why v [] m = absurd (Memᴰ.not-nil m)
value_why v (x ∷ s) (Memᴰ.head same) = (0, omega arith, ap (λ f. f.variable) same ∙ omega arith, ap (λ f. f.value) same)
value_why v (x ∷ s) (Memᴰ.tail later) =
    let (k, below, variable, value) = value_why (suc v) s later in
    (suc k, omega arith, omega arith, value)

value_there : (v : ℕ) (s : State) (k y : ℕ) → k < length s → y ≡ v + k → Memᴰ (record { variable = y; value = get_or s k 0 }) (values_from v s)
unfolding values_from
value_there v [] k y h e = absurd (omega arith)
value_there v (x ∷ s) zero y h e = let here : y ≡ v = omega arith in Memᴰ.head (λ i. record { variable = here i; value = x })
value_there v (x ∷ s) (suc k) y h e = Memᴰ.tail (value_there (suc v) s k y (omega arith) (omega arith))

module _ (s : State) {f : Fact} where
  -- what the start step always writes holds at the start
  start_holds : always_writes (start_step s) f → holds s f ≡ true
  unfolding written_always
  start_holds w =
      let (k, below, variable, value) = value_why 0 s (rw (each_always (values_from 0 s)) at w) in
      let here : f.variable ≡ k = omega arith in
      holds_there s f (rw here below) (rw here (sym value))

  -- and what holds there the start step always writes
  holds_start : holds s f ≡ true → always_writes (start_step s) f
  unfolding written_always
  holds_start h =
      let value : f.value ≡ get_or s f.variable 0 = sym (holds_value s f h) in
      rw (each_always (values_from 0 s))
      (Memᴰ.cast (λ i. record { variable = f.variable; value = value i }) (value_there 0 s f.variable f.variable (holds_variable s f h) (omega arith)))

-- a fact of a known variable that the starting values don't hold has another value there
pub start_other : (s : State) (f : Fact) → f.variable < length s → holds s f ≡ false → WritesOther (start_step s) f
start_other s f below unheld =
    let value : ℕ = get_or s f.variable 0 in
    let g : Fact = record { variable = f.variable; value = value } in
    (g, holds_start s {f = g} (holds_there s g below refl), refl, λ same. true≢false (sym (holds_there s f below same) ∙ unheld))

-- a fact of whose variable the start has another value is false there
pub start_other_false : (s : State) (f : Fact) → WritesOther (start_step s) f → holds s f ≡ false
start_other_false s f (g, w, variable, value) =
    by_case (holds s f) refl
  where
    by_case : (b : Bool) → holds s f ≡ b → b ≡ false
    by_case false e = refl
    by_case true e = absurd (value (sym (holds_value s g (start_holds s w)) ∙ ap (λ v. get_or s v 0) variable ∙ holds_value s f e))

module _ (goal : Assignment) {f : Fact} where
  -- the end step needs the goal's facts, and writes nothing
  pub end_needs_goal : needs (end_step goal) f → Memᴰ f goal
  unfolding needed
  end_needs_goal n = n

  pub goal_end_needs : Memᴰ f goal → needs (end_step goal) f
  unfolding needed
  goal_end_needs n = n

  pub end_writes_nothing : may_write (end_step goal) f → ⊥
  unfolding written
  end_writes_nothing w = Memᴰ.not-nil w
