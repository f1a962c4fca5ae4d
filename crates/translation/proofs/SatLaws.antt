-- Numbers above every limit of a sheet are read as one number, and that changes no answer: a task that a sheet can say,
-- with its numbers as they are or as they are read, has none of them. Assumes nothing.
use Prim.Native.Nat.{ℕ, ◌≤◌, ◌<◌}
use native.Mathlib.Omega.{arith}
use mathlib.Core.Path.{◌≡◌, refl, ◌∙◌, ap}
use mathlib.Core.Bool.{true, ◌&&◌, false≢true, and-eq-true_iff}
use mathlib.Core.List.{List, [], ◌∷◌, map, map-id}
use lib.ListN.{length, get_or}
use lib.Dec.{ltb, leb}
use borrow.Author.Tests.{ltb-true, leb-true}
use Rattle.sas.specs.Task.{Fact, Assignment, State, Effect, always, Action, Task}
use Rattle.sas.specs.Plan.{written}
use Rattle.sas.specs.Between.WellFormed.{Known}
use Rattle.sheet.specs.Limits.{limits}
use Rattle.fields.specs.Between.Numbers.{most_number}
use Rattle.meaning.specs.Between.Order.{insert}
use Rattle.meaning.specs.Between.Writable.{fit_in, variables_fit, no_condition, action_fits, actions_fit, writable}
use Rattle.meaning.proofs.OrderLaws.{fit_first}
use Rattle.meaning.proofs.OrderTheorem.{variable_fits, ActionFit, fit_action, FitsSheet, writable_fits}
use Rattle.printed_form.proofs.DatumLaws.{sat_small}
use Rattle.translation.proofs.TapeLaws.{sat_fact}
use Rattle.translation.proofs.MeantTheorem.{sat_number, sat_effect, sat_action, sat_task}

-- numbers that are taken as h gives them
module _ (h : ℕ → ℕ) where
  abbrev h_fact : Fact → Fact
  h_fact f = record { variable = h f.variable; value = h f.value }

  abbrev h_effect : Effect → Effect
  h_effect e = record { condition = map h_fact e.condition; fact = h_fact e.fact }

  abbrev h_action : Action → Action
  h_action a = record { precondition = map h_fact a.precondition; effects = map h_effect a.effects; cost = h a.cost }

  abbrev h_task : Task → Task
  h_task T =
      record {
        domains = map h T.domains;
        actions = map h_action T.actions;
        initial = map h T.initial;
        goal = map h_fact T.goal;
      }

-- where what is below every limit tells the number
module _ (h : ℕ → ℕ) (tells : (n : ℕ) → h n < most_number → sat_number n ≡ n) where
  -- ranges and starting values
  variables_tell : (rs : List ℕ) (s : State) → length s ≡ length rs → variables_fit (map h rs) (map h s) ≡ true
      → (map sat_number rs ≡ rs) × (map sat_number s ≡ s)
  unfolding variables_fit
  variables_tell [] [] same fit = (refl, refl)
  variables_tell [] (v ∷ s) same fit = absurd (omega arith)
  variables_tell (r ∷ rs) [] same fit = absurd (false≢true fit)
  variables_tell (r ∷ rs) (v ∷ s) same fit =
      let (size, others) = (and-eq-true_iff (leb (h r) limits.values) (ltb (h v) (h r) && variables_fit (map h rs) (map h s))).0 fit in
      let (start, more) = (and-eq-true_iff (ltb (h v) (h r)) (variables_fit (map h rs) (map h s))).0 others in
      let low : h r ≤ limits.values = leb-true (h r) limits.values size in
      let (ranges, starts) = variables_tell rs s (omega arith) more in
      let range : sat_number r ≡ r = tells r (omega arith) in
      let first : sat_number v ≡ v = tells v (omega (arith, ltb-true (h v) (h r) start)) in
      (ap (λ k. k ∷ map sat_number rs) range ∙ ap (λ ks. r ∷ ks) ranges, ap (λ k. k ∷ map sat_number s) first ∙ ap (λ ks. v ∷ ks) starts)

  -- facts of known variables and values
  module _ (rs : List ℕ) (few : length rs ≤ limits.variables) (low : (v : ℕ) → v < length rs → get_or rs v 0 ≤ limits.values) where
    fact_tells : (f : Fact) → Known rs (h_fact h f) → sat_fact f ≡ f
    fact_tells f known =
        let inside = known.variable in
        let below = known.value in
        let range = low (h f.variable) inside in
        let variable : sat_number f.variable ≡ f.variable = tells f.variable (omega arith) in
        let value : sat_number f.value ≡ f.value = tells f.value (omega arith) in
        ap (λ v. record { variable = v; value = sat_number f.value }) variable ∙ ap (λ v. record { variable = f.variable; value = v }) value

    facts_tell : (q fs : Assignment) → fit_in rs q (map (h_fact h) fs) ≡ true → map sat_fact fs ≡ fs
    facts_tell q [] fit = refl
    facts_tell q (f ∷ fs) fit =
        let (known, new, rest) = fit_first rs q (h_fact h f) (map (h_fact h) fs) fit in
        ap (λ g. g ∷ map sat_fact fs) (fact_tells f known) ∙ ap (λ gs. f ∷ gs) (facts_tell (insert (h_fact h f) q) fs rest)

    -- effects without conditions
    effects_tell : (q : Assignment) (es : List Effect) → no_condition (map (h_effect h) es) ≡ true → fit_in rs q (map (λ e. e.fact) (map (h_effect h) es)) ≡ true
        → map sat_effect es ≡ es
    unfolding no_condition
    effects_tell q [] none fit = refl
    effects_tell q (e ∷ es) none fit =
        let (known, new, rest) = fit_first rs q (h_fact h e.fact) (map (λ d. d.fact) (map (h_effect h) es)) fit in
        by_case e.condition none (fact_tells e.fact known) (λ all. effects_tell (insert (h_fact h e.fact) q) es all rest)
      where
        by_case : (cs : Assignment) → no_condition (record { condition = map (h_fact h) cs; fact = h_fact h e.fact } ∷ map (h_effect h) es) ≡ true
            → sat_fact e.fact ≡ e.fact → (no_condition (map (h_effect h) es) ≡ true → map sat_effect es ≡ es)
            → record { condition = map sat_fact cs; fact = sat_fact e.fact } ∷ map sat_effect es ≡ record { condition = cs; fact = e.fact } ∷ es
        by_case [] all fact rest = ap (λ f. always f ∷ map sat_effect es) fact ∙ ap (λ ds. always e.fact ∷ ds) (rest all)
        by_case (g ∷ cs) all fact rest = absurd (false≢true all)

    action_tells : (a : Action) → action_fits rs (h_action h a) ≡ true → sat_action a ≡ a
    unfolding action_fits written
    action_tells a passes =
        let fit : ActionFit rs (h_action h a) = fit_action rs (h_action h a) passes in
        let none : no_condition (map (h_effect h) a.effects) ≡ true = ((and-eq-true_iff (no_condition (map (h_effect h) a.effects)) _).0 passes).0 in
        let cost : sat_number a.cost ≡ a.cost = tells a.cost (omega (arith, fit.cost)) in
        ap (λ ps. record { precondition = ps; effects = map sat_effect a.effects; cost = sat_number a.cost }) (facts_tell [] a.precondition fit.precondition)
        ∙ ap (λ es. record { precondition = a.precondition; effects = es; cost = sat_number a.cost }) (effects_tell [] a.effects none fit.effect)
        ∙ ap (λ c. record { precondition = a.precondition; effects = a.effects; cost = c }) cost

    actions_tell : (p : List Action) → actions_fit rs (map (h_action h) p) ≡ true → map sat_action p ≡ p
    unfolding actions_fit
    actions_tell [] fit = refl
    actions_tell (a ∷ p) fit =
        let (first, others) = (and-eq-true_iff (action_fits rs (h_action h a)) (actions_fit rs (map (h_action h) p))).0 fit in
        ap (λ b. b ∷ map sat_action p) (action_tells a first) ∙ ap (λ q. a ∷ q) (actions_tell p others)

  task_tells : (T : Task) → length T.initial ≡ length T.domains → writable (h_task h T) ≡ true → sat_task T ≡ T
  task_tells T complete can =
      let fits : FitsSheet (h_task h T) = writable_fits (h_task h T) can in
      let (ranges, starts) = variables_tell T.domains T.initial complete fits.each_variable in
      let low : (v : ℕ) → v < length (map h T.domains) → get_or (map h T.domains) v 0 ≤ limits.values =
      λ v inside. (variable_fits (map h T.domains) (map h T.initial) fits.each_variable v inside).0 in
      ap (λ ds. record { domains = ds; actions = map sat_action T.actions; initial = map sat_number T.initial; goal = map sat_fact T.goal }) ranges
      ∙ ap (λ p. record { domains = T.domains; actions = p; initial = map sat_number T.initial; goal = map sat_fact T.goal })
      (actions_tell (map h T.domains) fits.variables low T.actions fits.each_action)
      ∙ ap (λ s. record { domains = T.domains; actions = T.actions; initial = s; goal = map sat_fact T.goal }) starts
      ∙ ap (λ g. record { domains = T.domains; actions = T.actions; initial = T.initial; goal = g })
      (facts_tell (map h T.domains) fits.variables low [] T.goal fits.goal)

-- as they are read
pub read_same : (T : Task) → length T.initial ≡ length T.domains → writable (sat_task T) ≡ true → sat_task T ≡ T
read_same T complete can = task_tells sat_number (λ n low. sat_small n (omega arith)) T complete can

-- and as they are
effects_same : (es : List Effect) → map (h_effect (λ n. n)) es ≡ es
effects_same [] = refl
effects_same (e ∷ es) = ap (λ q. record { condition = q; fact = e.fact } ∷ map (h_effect (λ n. n)) es) (map-id e.condition) ∙ ap (λ ds. e ∷ ds) (effects_same es)

action_same : (a : Action) → h_action (λ n. n) a ≡ a
action_same a =
    ap (λ ps. record { precondition = ps; effects = map (h_effect (λ n. n)) a.effects; cost = a.cost }) (map-id a.precondition)
    ∙ ap (λ es. record { precondition = a.precondition; effects = es; cost = a.cost }) (effects_same a.effects)

actions_same : (p : List Action) → map (h_action (λ n. n)) p ≡ p
actions_same [] = refl
actions_same (a ∷ p) = ap (λ b. b ∷ map (h_action (λ n. n)) p) (action_same a) ∙ ap (λ q. a ∷ q) (actions_same p)

task_same : (T : Task) → h_task (λ n. n) T ≡ T
task_same T =
    ap (λ ds. record { domains = ds; actions = map (h_action (λ n. n)) T.actions; initial = map (λ n. n) T.initial; goal = map (h_fact (λ n. n)) T.goal }) (map-id T.domains)
    ∙ ap (λ p. record { domains = T.domains; actions = p; initial = map (λ n. n) T.initial; goal = map (h_fact (λ n. n)) T.goal }) (actions_same T.actions)
    ∙ ap (λ s. record { domains = T.domains; actions = T.actions; initial = s; goal = map (h_fact (λ n. n)) T.goal }) (map-id T.initial)
    ∙ ap (λ g. record { domains = T.domains; actions = T.actions; initial = T.initial; goal = g }) (map-id T.goal)

pub exact_same : (T : Task) → length T.initial ≡ length T.domains → writable T ≡ true → sat_task T ≡ T
exact_same T complete can =
    task_tells (λ n. n) (λ n low. sat_small n (omega arith)) T complete (ap writable (task_same T) ∙ can)
