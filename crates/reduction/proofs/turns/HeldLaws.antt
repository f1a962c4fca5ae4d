-- Whether a fact holds after an action is told by whether it held before: what the action writes holds, a fact of a variable that it sets otherwise does not,
-- and every other one is as before. So what a search has decided before an index tells which facts hold there. This is of plain actions alone. A run
-- keeps the number of variables, and what holds of each action of a plan holds of the one at an index. By the laws of `apply`, and by list induction. Assumes nothing.
use Prim.Native.Nat.{ℕ, zero, suc, ◌<◌}
use native.Mathlib.Omega.{arith}
use mathlib.Core.Path.{◌≡◌, refl, sym, ◌∙◌, ap}
use mathlib.Core.Logic.{⊎_elim}
use mathlib.Core.Bool.{Bool, true, false, true≢false, not, ◌&&◌, ◌||◌, and-eq-true_iff, or-true}
use mathlib.Core.Option.{some}
use mathlib.Core.List.Memᴰ
use mathlib.Core.List.{List, [], ◌∷◌, Memᴰ}
use lib.ListN.{length, get_or, take}
use lib.Seq.{drop-cons, take-take}
use lib.Dec.{eqb}
use borrow.Author.Tests.{eqb-true, eq-eqb}
use Rattle.sas.specs.Task.{Fact, State, Action, idle}
use Rattle.sas.specs.Plan.{holds, apply, run, written, may_write}
use Rattle.sas.specs.Between.WellFormed.{Plain}
use Rattle.sas.proofs.EffectLaws.{one_value}
use Rattle.sas.proofs.WellFormedLaws.{plain_known, each_behind}
use Rattle.sas.proofs.ActionLaws.{result_assigned, apply_length, apply_other, apply_holds}
use Rattle.sas.proofs.RunLaws.{run_end, run_first}
use Rattle.reduction.specs.Reduction.{Reduction}
use Rattle.reduction.specs.Landmark.{step}
use Rattle.reduction.specs.Between.Wanted.{has}
use Rattle.reduction.specs.Between.Course.{touches, held_after, held}
use Rattle.reduction.proofs.ReductionLaws.{alike_before}
use Rattle.reduction.proofs.MemberLaws.{has_member, has_no_member}
use Rattle.sas.proofs.SomeLaws.{or_cases, found, found_passes}

-- a run keeps the number of variables
pub run_length : {t : State} (s : State) (p : List Action) → run s p ≡ some t → length t ≡ length s
run_length {t} s [] h = ap length (sym (run_end s t h))
run_length s (a ∷ p) h = let (u, first, rest) = run_first s a p h in run_length u p rest ∙ ap length (result_assigned s a first) ∙ apply_length s a

-- what holds of each action of a plan holds of the one at an index
pub each_step : {P : Action → Type 0} {p : List Action} → ((a : Action) → Memᴰ a p → P a) → (i : ℕ) → i < length p → P (step p i)
each_step {p = p} each i inside = each_behind each i (step p i) (rw (drop-cons p i idle inside) (Memᴰ.head refl))

-- of one variable one fact holds
one_fact : (t : State) (f g : Fact) → f.variable ≡ g.variable → holds t f ≡ true → holds t g ≡ true → f ≡ g
one_fact t f g same h k = let value : f.value ≡ g.value = one_value t f g same h k in λ i. record { variable = same i; value = value i }

-- a fact of a variable that an action may not write is as before
untouched_held : (a : Action) (f : Fact) (t : State) → touches a f ≡ false → holds (apply t a) f ≡ holds t f
unfolding holds touches
untouched_held a f t h = rw (apply_length t a, apply_other t a f.variable other)
  where
    other : (g : Fact) → may_write a g → g.variable ≡ f.variable → ⊥
    other g w same = true≢false (sym (found (λ g. eqb g.variable f.variable) w (eq-eqb _ _ same)) ∙ h)

-- whether a fact holds after an action, by whether it held before
pub apply_held : {domains : List ℕ} (a : Action) (f : Fact) (t : State) → Plain domains a → length t ≡ length domains
    → holds (apply t a) f ≡ held_after a f (holds t f)
unfolding held_after touches
apply_held {domains} a f t plain fits = by_case (has (written a) f) (touches a f) refl refl
  where
    written_holds : (g : Fact) → may_write a g → holds (apply t a) g ≡ true
    written_holds g w = apply_holds a t plain w (omega (arith, (plain_known plain w).variable))

    set_otherwise : (b : Bool) → has (written a) f ≡ false → touches a f ≡ true → holds (apply t a) f ≡ b → b ≡ false
    set_otherwise false e h k = refl
    set_otherwise true e h k =
        let (g, w, same) = found_passes (λ g. eqb g.variable f.variable) (written a) h in
        let one : f ≡ g = one_fact (apply t a) f g (sym (eqb-true _ _ same)) k (written_holds g w) in
        absurd (has_no_member (written a) f e (Memᴰ.cast one w))

    by_case : (x y : Bool) → has (written a) f ≡ x → touches a f ≡ y → holds (apply t a) f ≡ (x || not y && holds t f)
    by_case true y e h = written_holds f (has_member (written a) f e)
    by_case false true e h = set_otherwise (holds (apply t a) f) e h refl
    by_case false false e h = untouched_held a f t h

-- where more held before an action, more holds after it
pub held_more : {x y : Bool} (a : Action) (f : Fact) → (x ≡ true → y ≡ true) → held_after a f x ≡ true → held_after a f y ≡ true
unfolding held_after
held_more {x} a f more h =
    ⊎_elim
    (λ here. rw here)
    (λ before. let (untouched, held) = (and-eq-true_iff (not (touches a f)) x).0 before in rw (untouched, more held, or-true))
    (or_cases (has (written a) f) (not (touches a f) && x) h)

module _ (s : State) (p : List Action) (m : Reduction) (f : Fact) (i : ℕ) where
  -- behind a kept step, by what the step does
  pub held_kept : get_or m i false ≡ true → held s p m f (suc i) ≡ held_after (step p i) f (held s p m f i)
  unfolding held
  held_kept up = rw up

  -- behind a struck one as before it
  pub held_struck : get_or m i false ≡ false → held s p m f (suc i) ≡ held s p m f i
  unfolding held
  held_struck down = rw down

-- the same decisions before an index, the same facts there
pub held_alike : (s : State) (p : List Action) (m n : Reduction) (f : Fact) (i : ℕ) → take i m ≡ take i n → held s p m f i ≡ held s p n f i
unfolding held
held_alike s p m n f zero same = refl
held_alike s p m n f (suc i) same =
    let before : take i m ≡ take i n = sym (take-take i (suc i) m (omega arith)) ∙ ap (take i) same ∙ take-take i (suc i) n (omega arith) in
    rw (alike_before m n (suc i) i same (omega arith), held_alike s p m n f i before)
