-- The starting values are stored one by one, by the cases of a loop over the variables; and a state in an array: it is the array's front, and another of as
-- many values laid over it is that one in an array. Assumes nothing.
use Prim.Native.Nat.{ℕ, ◌+◌, ◌-◌, ◌≤◌, ◌<◌}
use native.Mathlib.Nat.{sub-zero}
use native.Mathlib.Omega.{arith}
use mathlib.Core.Path.{◌≡◌, sym, ◌∙◌}
use mathlib.Core.List.{List, ◌++◌}
use lib.ListN.{length, set, take, drop, length-take, replicate, length-replicate, replicate-append-replicate}
use lib.Seq.{sets, sets-eq, length-sets, take_at, drop_at}
use Rattle.sas.specs.Task.{State}
use Rattle.sheet.specs.Limits.{limits}
use Rattle.sheet.specs.Layout.{variables, start}
use Rattle.sheet.specs.Decode.{table, initial}
use Rattle.sheet.specs.Causes.{Accepted}
use Rattle.sheet.proofs.Parts.{accepted_measured}
use Rattle.sheet.proofs.TableLaws.{table_length, stores_over, stores_next}
use Rattle.step.specs.State.{state_size, front, in_array}

-- a state with the starting values of the variables from v up to n stored in it
unfoldable pub started : List ℕ → List ℕ → ℕ → ℕ → List ℕ
started w values v n = sets values v (table (start w) v (n - v))

pub started_over : (w values : List ℕ) (v n : ℕ) → n ≤ v → started w values v n ≡ values
unfolding started
started_over w values v n h = stores_over (start w) values v n h

pub started_more : (w values : List ℕ) (v n : ℕ) → v < n → started w values v n ≡ started w (set values v (start w v)) (v + 1) n
unfolding started
started_more w values v n h = stores_next (start w) values v n h

-- from the first variable on, all of them are
pub started_whole : (w values : List ℕ) (n : ℕ) → n ≡ variables w → started w values 0 n ≡ sets values 0 (initial w)
unfolding started initial
started_whole w values n e = rw (e, sub-zero)

-- what is left of equal elements
pub drop_replicate : {A : Type 0} (k n : ℕ) (x : A) → k ≤ n → drop k (replicate n x) ≡ replicate (n - k) x
drop_replicate k n x h =
    let whole : k + (n - k) ≡ n = omega arith in
    let parts : replicate k x ++ replicate (n - k) x ≡ replicate n x = replicate-append-replicate k (n - k) x ∙ rw whole in
    rw (← parts) (drop_at (replicate k x) (replicate (n - k) x) k (length-replicate k x))

-- the part of an array that a walk is lent
pub lent_length : (s : State) (values : List ℕ) (n : ℕ) → values ≡ in_array s → n ≤ limits.variables → n ≡ length (take n values)
unfolding in_array
lent_length s values n e h =
    let room : length values ≡ limits.variables = rw (e, length-sets) (length-replicate {A = ℕ} limits.variables 0) in
    rw length-take (omega arith)

-- what was lent comes back as the state that the array holds
pub front_laid : (w values after : List ℕ) (n : ℕ) → n ≡ state_size w → length after ≡ n → front w (after ++ drop n values) ≡ after
front_laid w values after n fits long = take_at after (drop n values) (state_size w) (long ∙ fits)

-- a state in an array and zeros past it
pub array_parts : (s : State) → length s ≤ limits.variables → in_array s ≡ s ++ replicate (limits.variables - length s) 0
unfolding in_array
array_parts s h =
    let zeros : State = replicate limits.variables 0 in
    let room : 0 + length s ≤ length zeros = rw length-replicate (omega arith) in
    let past : 0 + length s ≡ length s = omega arith in
    sets-eq s zeros 0 room ∙ rw (past, drop_replicate {A = ℕ} (length s) limits.variables 0 h)

pub array_laid : (s t : State) → length s ≤ limits.variables → length t ≡ length s → t ++ drop (length s) (in_array s) ≡ in_array t
array_laid s t h same = rw (array_parts s h, drop_at s (replicate (limits.variables - length s) 0) (length s), array_parts t (omega arith), same)

pub initial_length : (w : List ℕ) → length (initial w) ≡ variables w
unfolding initial
initial_length w = table_length (start w) 0 (variables w)

module _ (w : List ℕ) (accepted : Accepted w) where
  pub sized : state_size w ≡ length (initial w)
  sized = omega (arith, (accepted_measured w accepted).variables, initial_length w)

  pub few_variables : length (initial w) ≤ limits.variables
  few_variables = omega (arith, sized)

  pub front_initial : front w (in_array (initial w)) ≡ initial w
  front_initial = rw (array_parts (initial w) few_variables) (take_at (initial w) _ (state_size w) (sym sized))
