-- The numbers of a text by the cases and turns of the code: an operator's cost, whether the variables fit, and numbers copied among words. Assumes nothing.
use Prim.Native.Nat.{ℕ, zero, suc, ◌+◌, ◌≤◌, ◌<◌}
use native.Mathlib.Omega.{arith}
use mathlib.Core.Path.{◌≡◌, refl, ◌∙◌}
use mathlib.Core.Bool.{Bool, true, false, ◌&&◌}
use mathlib.Core.List.{List, [], ◌∷◌}
use lib.ListN.{length, get_or}
use lib.Dec.{ltb, leb}
use Rattle.std.specs.List.{list_all, range_with_len}
use borrow.Author.Tests.{leb-true, eq-eqb, ne_eqb}
use Rattle.sas.specs.Task.{State}
use Rattle.sheet.specs.Limits.{limits}
use Rattle.sheet.specs.Decode.{table}
use Rattle.meaning.specs.Between.Sections.{number_at, metric, variables, range_of, ranges, state, cost_at, action_at}
use Rattle.meaning.specs.Between.Writable.{variables_fit}
use Rattle.meaning.specs.Between.Small.{Small}
use Rattle.meaning.proofs.GatherLaws.{and_first, and_second, ranges_length, ranges_at}

module _ (x : List ℕ) (i : ℕ) where
  pub cost_alike : metric x ≡ 0 → 1 ≡ (action_at x i).cost
  unfolding action_at
  cost_alike none = rw (eq-eqb (metric x) 0 none)

  pub cost_told : (metric x ≡ 0 → ⊥) → number_at x (cost_at x i) ≡ (action_at x i).cost
  unfolding action_at
  cost_told some = rw (ne_eqb (metric x) 0 some)

-- the starting value of variable k of v
abbrev pub start_of : List ℕ → ℕ → ℕ → ℕ
start_of x v k = number_at x (2 + v + k)

-- whether it fits
abbrev pub variable_fit : List ℕ → ℕ → ℕ → Bool
variable_fit x v k = leb (range_of x k) limits.values && ltb (start_of x v k) (range_of x k)

and_assoc : (a b c : Bool) → (a && b) && c ≡ a && (b && c)
and_assoc true b c = refl
and_assoc false b c = refl

fit_each : (x : List ℕ) (v k n : ℕ) → list_all (variable_fit x v) (range_with_len k n) ≡ variables_fit (table (range_of x) k n) (table (start_of x v) k n)
unfolding variables_fit table
fit_each x v k zero = refl
fit_each x v k (suc n) = rw (fit_each x v (k + 1) n, and_assoc) refl

pub fit_all : (x : List ℕ) (v : ℕ) → v ≡ variables x → list_all (variable_fit x v) (range_with_len 0 v) ≡ variables_fit (ranges x) (state x)
unfolding ranges state
fit_all x v e = fit_each x v 0 v ∙ rw e

range_low : (rs : List ℕ) (s : State) (v : ℕ) → variables_fit rs s ≡ true → v < length rs → get_or rs v 0 ≤ limits.values
unfolding variables_fit
range_low [] s v fits low = absurd (omega arith)
range_low (r ∷ rs) [] v fits low = absurd (let z : ◌≡◌ {A = ℕ} 0 1 = cc in omega arith)
range_low (r ∷ rs) (x ∷ s) zero fits low = leb-true r limits.values (and_first _ _ fits)
range_low (r ∷ rs) (x ∷ s) (suc v) fits low =
    range_low rs s v (and_second (ltb x r) _ (and_second (leb r limits.values) _ fits)) (omega arith)

pub fit_small : (x : List ℕ) → variables x ≤ limits.variables → variables_fit (ranges x) (state x) ≡ true → Small x
fit_small x few fits =
    record { few = few; low = λ v low. rw (← ranges_at x v low) (range_low (ranges x) (state x) v fits (omega (arith, ranges_length x))) }
