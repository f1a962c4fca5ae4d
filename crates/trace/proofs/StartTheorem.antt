-- The tables as a pass begins tell the traces behind the start step: no step has written a fact, and the start step has written each variable's starting value.
-- The words of the variables by induction on their number. Assumes nothing.
use Prim.Native.Nat.{ℕ, zero, suc, ◌+◌, ◌*◌, ◌%◌, ◌-◌, ◌≤◌, ◌<◌}
use native.Mathlib.Omega.{arith}
use mathlib.Core.Path.{◌≡◌, refl, sym, ◌∙◌, ap}
use mathlib.Core.Logic.{⊎_elim}
use mathlib.Core.Bool.{Bool, true, false, true≢false, cond, not}
use mathlib.Core.List.{List}
use lib.ListN.{length, get_or, set, replicate, length-set, length-replicate, get_or-append}
use lib.Seq.{get_or-set_same, get_or-set_other}
use lib.Dec.{eqb, ltb}
use borrow.Author.Tests.{eqb-true, eqb-false, eq-eqb, ne_eqb}
use Rattle.sas.specs.Task.{Fact, State, Action}
use Rattle.sas.specs.Plan.{holds, written}
use Rattle.sas.specs.Between.WellFormed.{Known, Within}
use Rattle.sas.proofs.FactLaws.{holds_known}
use Rattle.reduction.specs.Reduction.{Reduction, keeps}
use Rattle.reduction.specs.Landmark.{step, start_step}
use Rattle.reduction.specs.Between.Wanted.{has}
use Rattle.reduction.specs.Between.Landmarks.{sets_other, Trace, passed, trace}
use Rattle.reduction.proofs.marks.FrameLaws.{start_other, start_other_false}
use Rattle.reduction.proofs.marks.LinkLaws.{either, before_or_at, sets_writes, writes_sets}
use Rattle.sheet.specs.Limits.{limits}
use Rattle.sheet.specs.Decode.{domains, initial, task}
use Rattle.sheet.specs.Between.Encode.{fact_word}
use Rattle.sheet.specs.Causes.{Accepted}
use Rattle.sheet.proofs.Accepted.{domains_length, domain_limits, accepted_well_formed}
use Rattle.step.specs.State.{in_array}
use Rattle.step.proofs.StateLaws.{array_parts, few_variables}
use Rattle.fact_table.specs.Between.Tables.{most_facts}
use Rattle.fact_table.proofs.WantsLaws.{fits}
use Rattle.trace.specs.Between.Traces.{trace_start, latest_start, until_at, tables, started}
use Rattle.trace.proofs.TraceTheorem.{read, Sized, until_parts, word_variable, variable_room}

zero_there : (n i : ℕ) → get_or {A = ℕ} (replicate n 0) i 0 ≡ 0
zero_there zero i = refl
zero_there (suc n) zero = refl
zero_there (suc n) (suc i) = zero_there n i

-- the words of variable v, where those of the first n are written
module _ (values : List ℕ) where
  abbrev first_word : ℕ → ℕ
  first_word v = v * limits.values + get_or values v 0 % limits.values

  started_length : (n : ℕ) → length (started values n) ≡ latest_start limits.variables
  unfolding started
  started_length zero = length-replicate {A = ℕ} (latest_start limits.variables) 0
  started_length (suc n) =
      length-set (set (started values n) (latest_start n) (first_word n)) (latest_start n + 1) 1
      ∙ length-set (started values n) (latest_start n) (first_word n)
      ∙ started_length n

  started_other : (n k : ℕ) → (k ≡ latest_start n → ⊥) → (k ≡ latest_start n + 1 → ⊥) → get_or (started values (suc n)) k 0 ≡ get_or (started values n) k 0
  unfolding started
  started_other n k first second =
      get_or-set_other (set (started values n) (latest_start n) (first_word n)) (latest_start n + 1) k 1 0 second
      ∙ get_or-set_other (started values n) (latest_start n) k (first_word n) 0 first

  started_first : (n v : ℕ) → v < n → n ≤ limits.variables → get_or (started values n) (latest_start v) 0 ≡ first_word v
  unfolding started
  started_first zero v h room = absurd (omega arith)
  started_first (suc n) v h room =
      ⊎_elim
      (λ before. started_other n (latest_start v) (λ e. omega arith) (λ e. omega arith) ∙ started_first n v before (omega arith))
      (λ same.
      rw same
      (get_or-set_other (set (started values n) (latest_start n) (first_word n)) (latest_start n + 1) (latest_start n) 1 0 (λ e. omega arith)
      ∙ get_or-set_same (started values n) (latest_start n) (first_word n) 0 (omega (arith, started_length n))))
      (before_or_at v n h)

  started_second : (n v : ℕ) → v < n → n ≤ limits.variables → get_or (started values n) (latest_start v + 1) 0 ≡ 1
  unfolding started
  started_second zero v h room = absurd (omega arith)
  started_second (suc n) v h room =
      ⊎_elim
      (λ before. started_other n (latest_start v + 1) (λ e. omega arith) (λ e. omega arith) ∙ started_second n v before (omega arith))
      (λ same.
      rw same
      (get_or-set_same (set (started values n) (latest_start n) (first_word n)) (latest_start n + 1) 1 0
      (omega (arith, length-set (started values n) (latest_start n) (first_word n), started_length n))))
      (before_or_at v n h)

  started_third : (n v : ℕ) → get_or (started values n) (latest_start v + 2) 0 ≡ 0
  unfolding started
  started_third zero v = zero_there (latest_start limits.variables) (latest_start v + 2)
  started_third (suc n) v = started_other n (latest_start v + 2) (λ e. omega arith) (λ e. omega arith) ∙ started_third n v

-- the start step writes another value just to the variables of facts that fail
start_sets : (s : State) (g : Fact) → g.variable < length s → sets_other (start_step s) g ≡ not (holds s g)
start_sets s g below = ⊎_elim held unheld (either (holds s g))
  where
    held : holds s g ≡ true → sets_other (start_step s) g ≡ not (holds s g)
    held h =
        ⊎_elim
        (λ up. absurd (true≢false (sym h ∙ start_other_false s g (sets_writes (start_step s) g up))))
        (λ down. rw h down)
        (either (sets_other (start_step s) g))

    unheld : holds s g ≡ false → sets_other (start_step s) g ≡ not (holds s g)
    unheld h = rw h (writes_sets (start_step s) g (start_other s g below h))

either_way : (b : Bool) → cond {A = ℕ} b 0 1 ≡ cond (not b) 1 0
either_way true = refl
either_way false = refl

module _ (w : List ℕ) (accepted : Accepted w) where
  within : Within (domains w) (initial w)
  unfolding task
  within = (accepted_well_formed w accepted).initial

  abbrev values : List ℕ
  values = in_array (initial w)

  module _ (g : Fact) (known : Known (domains w) g) where
    abbrev v : ℕ
    v = g.variable

    abbrev x : ℕ
    x = get_or (initial w) v 0

    here : v < length (initial w)
    here = omega (arith, within.complete, known.variable)

    room : v < limits.variables
    room = variable_room w accepted g known

    value_small : get_or (initial w) v 0 < limits.values
    value_small =
        let below : get_or (initial w) v 0 < get_or (domains w) v 0 = within.below v known.variable in
        omega (arith, (domain_limits w accepted v (rw domains_length at known.variable)).1)

    value_there : get_or values v 0 ≡ get_or (initial w) v 0
    value_there =
        ap (λ l. get_or l v 0) (array_parts (initial w) (few_variables w accepted))
        ∙ get_or-append (initial w) (replicate (limits.variables - length (initial w)) 0) 0 v here

    first_is : eqb (first_word values v) (fact_word g) ≡ holds (initial w) g
    first_is = rw (holds_known (initial w) g here, value_there) (⊎_elim same other (either (eqb (get_or (initial w) v 0) g.value)))
      where
        small : g.value < limits.values
        small = (fits w accepted g known).0

        same : eqb x g.value ≡ true → eqb (v * limits.values + x % limits.values) (fact_word g) ≡ eqb x g.value
        same e = eq-eqb (v * limits.values + x % limits.values) (fact_word g) (omega (arith, eqb-true x g.value e, value_small)) ∙ sym e

        other : eqb x g.value ≡ false → eqb (v * limits.values + x % limits.values) (fact_word g) ≡ eqb x g.value
        other e = ne_eqb (v * limits.values + x % limits.values) (fact_word g) (λ h. eqb-false x g.value e (omega (arith, value_small, small))) ∙ sym e

    start_until : until_at (started values limits.variables) (fact_word g) ≡ cond (sets_other (start_step (initial w)) g) 1 0
    start_until =
        until_parts (started values limits.variables) (fact_word g) v (word_variable w accepted g known)
        ∙ rw (
          started_first values limits.variables v room (omega arith),
          started_second values limits.variables v room (omega arith),
          started_third values limits.variables v,
          first_is,
          start_sets (initial w) g here,
        )
        (either_way (holds (initial w) g))

  -- as a pass begins
  pub start_sized : Sized (tables (replicate (trace_start most_facts) 0) (started values limits.variables))
  start_sized = record { traces = length-replicate {A = ℕ} (trace_start most_facts) 0; latest = started_length values limits.variables }

  -- the trace of a fact that no step has written
  abbrev behind : Fact → ℕ → ℕ → Trace
  behind g last support = record { last = last; until = cond (sets_other (start_step (initial w)) g) 1 0; support = support }

  pub start_reads : (q : List Action) (m : Reduction) (g : Fact) → step q 0 ≡ start_step (initial w) → keeps m 0 → Known (domains w) g
      → read (tables (replicate (trace_start most_facts) 0) (started values limits.variables)) g ≡ trace q m g 1
  unfolding trace passed
  start_reads q m g first up known =
      rw (first, up, zero_there (trace_start most_facts) (trace_start (fact_word g)), zero_there (trace_start most_facts) (trace_start (fact_word g) + 1), start_until g known)
      (nothing (has (written (start_step (initial w))) g))
    where
      nothing : (b : Bool) → behind g 0 0 ≡ behind g (cond b 0 0) (cond b (cond (ltb 0 0) 0 0) 0)
      nothing true = refl
      nothing false = refl
