-- The task that the numbers kept of a text mean is the text's, with each number as it is read. Assumes nothing.
use Prim.Native.Nat.{ℕ, suc, ◌+◌, ◌*◌, ◌≤◌}
use native.Mathlib.Omega.{arith}
use mathlib.Core.Path.{◌≡◌, refl, sym, ◌∙◌, ap}
use mathlib.Core.Bool.{Bool, true, false, cond}
use mathlib.Core.Option.{Option, none, some}
use mathlib.Core.List.{List, [], ◌∷◌, ◌++◌, map, map-append, map-map, flatten, append_assoc}
use lib.ListN.{length, drop, length-append, length-map}
use lib.Dec.{eqb, ltb}
use Rattle.sas.specs.Task.{Assignment, always, Action, Task}
use Rattle.sas.specs.Task as sas
use Rattle.sheet.specs.Decode.{table}
use Rattle.fields.specs.Between.Numbers.{most_number}
use Rattle.meaning.specs.Between.Sections.{number_at, facts_at, fact_wide, effect_wide, metric, variables, range_of, ranges, state, goal_at, goal, operators_at, effects_at, cost_at, operator_end, prevail, old_values, new_values, action_at, actions_from, meaning}
use Rattle.planner.specs.Text.{Change, Effect, Operator, Text}
use Rattle.planner.specs.Printed.{Line, said, keyword, numbers, number_line, fact_numbers, effect_numbers, lines, counted, variable_lines, group_lines, value_lines, fact_lines, effect_lines, operator_lines, axiom_lines, axioms_line}
use Rattle.planner.specs.Meant.{old_fact, new_fact, meant_effect, meant_action, meant}
use Rattle.printed_form.specs.Between.Datum.{sat}
use Rattle.printed_form.proofs.DatumLaws.{sat_small}
use Rattle.printed_form.proofs.BlockLaws.{fact_tape, value_tape, effect_tape, counted_tape, variable_tape, operator_tape}
use Rattle.printed_form.proofs.TextTheorem.{text_tape}
use Rattle.translation.proofs.TapeLaws.{number_here, behind, behind_one, sat_fact, facts_told, sat_change, AllSayable, sayable_parts, unconditional, plain_effect, olds_told, news_told}

-- a task with each number as it is read
abbrev pub sat_number : ℕ → ℕ
sat_number n = sat (some n)

abbrev pub sat_effect : sas.Effect → sas.Effect
sat_effect e = record { condition = map sat_fact e.condition; fact = sat_fact e.fact }

abbrev pub sat_action : Action → Action
sat_action a = record { precondition = map sat_fact a.precondition; effects = map sat_effect a.effects; cost = sat_number a.cost }

abbrev pub sat_task : Task → Task
sat_task T =
    record {
      domains = map sat_number T.domains;
      actions = map sat_action T.actions;
      initial = map sat_number T.initial;
      goal = map sat_fact T.goal;
    }

-- the facts of changes, as they are read
sat_old_fact : (c : Change) → old_fact (sat_change c) ≡ map sat_fact (old_fact c)
sat_old_fact c = by_case c.old c.new
  where
    by_case : (o : Option ℕ) (n : ℕ) → old_fact (sat_change (record { variable = c.variable; old = o; new = n })) ≡ map sat_fact (old_fact (record { variable = c.variable; old = o; new = n }))
    by_case none n = refl
    by_case (some v) n = refl

sat_olds : (es : List Effect) → flatten (map (λ e. old_fact (sat_change e.change)) es) ≡ map sat_fact (flatten (map (λ e. old_fact e.change) es))
unfolding flatten
sat_olds [] = refl
sat_olds (e ∷ es) =
    ap (λ gs. gs ++ flatten (map (λ d. old_fact (sat_change d.change)) es)) (sat_old_fact e.change)
    ∙ ap (λ gs. map sat_fact (old_fact e.change) ++ gs) (sat_olds es)
    ∙ sym (map-append sat_fact (old_fact e.change) (flatten (map (λ d. old_fact d.change) es)))

sat_news : (es : List Effect) → AllSayable (flatten (map effect_lines es))
    → map always (map (λ e. new_fact (sat_change e.change)) es) ≡ map sat_effect (map meant_effect es)
unfolding flatten
sat_news [] all = refl
sat_news (e ∷ es) (says, others) =
    ap (λ d. d ∷ map always (map (λ c. new_fact (sat_change c.change)) es)) (ap (λ cs. record { condition = map sat_fact cs; fact = new_fact (sat_change e.change) }) (sym (unconditional e.conditions says)))
    ∙ ap (λ ds. sat_effect (meant_effect e) ∷ ds) (sat_news es others)

-- how many numbers there are
facts_long : (fs : Assignment) → length (flatten (map fact_tape fs)) ≡ 2 * length fs
unfolding flatten
facts_long [] = refl
facts_long (f ∷ fs) = let rest = facts_long fs in omega arith

effects_long : (es : List Effect) → AllSayable (flatten (map effect_lines es)) → length (flatten (map effect_tape es)) ≡ 4 * length es
unfolding flatten
effects_long [] all = refl
effects_long (e ∷ es) (says, others) =
    let rest = effects_long es others in
    let here : length (effect_tape e) ≡ 4 = ap length (plain_effect e says) in
    length-append (effect_tape e) (flatten (map effect_tape es)) ∙ omega arith

-- one operator, whose numbers begin at place i
module _ (x : List ℕ) (b : Bool) (scale : metric x ≡ cond b 1 0) (o : Operator) (i : ℕ) (rest : List ℕ) (is : drop i x ≡ operator_tape o ++ rest)
    (few_prevail : length o.prevail ≤ most_number) (few_effects : length o.effects ≤ most_number)
    (says : AllSayable (flatten (map effect_lines o.effects))) where
  abbrev effects_tape : List ℕ
  effects_tape = counted_tape effect_tape o.effects ++ (sat (some o.cost) ∷ rest)

  all_numbers : drop i x ≡ counted_tape fact_tape o.prevail ++ effects_tape
  all_numbers =
      is ∙ append_assoc (counted_tape fact_tape o.prevail) (counted_tape effect_tape o.effects ++ (sat (some o.cost) ∷ [])) rest
      ∙ ap (λ ys. counted_tape fact_tape o.prevail ++ ys) (append_assoc (counted_tape effect_tape o.effects) (sat (some o.cost) ∷ []) rest)

  prevail_many : number_at x i ≡ length o.prevail
  prevail_many = number_here x i _ _ all_numbers ∙ sat_small (length o.prevail) few_prevail

  prevail_told : prevail x i ≡ map sat_fact o.prevail
  prevail_told =
      ap (facts_at x fact_wide 1 (i + 1)) prevail_many ∙ facts_told x o.prevail (i + 1) effects_tape (behind_one x i _ _ all_numbers)

  effects_place : effects_at x i ≡ i + length (counted_tape fact_tape o.prevail)
  effects_place = let long = facts_long o.prevail in let many = prevail_many in omega arith

  effects_here : drop (effects_at x i) x ≡ effects_tape
  effects_here = ap (λ k. drop k x) effects_place ∙ behind x i (counted_tape fact_tape o.prevail) effects_tape all_numbers

  effects_many : number_at x (effects_at x i) ≡ length o.effects
  effects_many = number_here x (effects_at x i) _ _ effects_here ∙ sat_small (length o.effects) few_effects

  effects_behind : drop (effects_at x i + 1) x ≡ flatten (map effect_tape o.effects) ++ (sat (some o.cost) ∷ rest)
  effects_behind = behind_one x (effects_at x i) _ _ effects_here

  first_effect : effects_at x i + 2 ≡ effects_at x i + 1 + 1
  first_effect = omega arith

  olds : old_values x i ≡ map sat_fact (flatten (map (λ e. old_fact e.change) o.effects))
  olds =
      ap (λ k. facts_at x effect_wide 1 k (number_at x (effects_at x i))) first_effect
      ∙ ap (facts_at x effect_wide 1 (effects_at x i + 1 + 1)) effects_many
      ∙ olds_told x o.effects (effects_at x i + 1) (sat (some o.cost) ∷ rest) says effects_behind ∙ sat_olds o.effects

  news : map always (new_values x i) ≡ map sat_effect (map meant_effect o.effects)
  news =
      ap (λ k. map always (facts_at x effect_wide 2 k (number_at x (effects_at x i)))) first_effect
      ∙ ap (λ n. map always (facts_at x effect_wide 2 (effects_at x i + 1 + 1) n)) effects_many
      ∙ ap (map always) (news_told x o.effects (effects_at x i + 1) (sat (some o.cost) ∷ rest) says effects_behind) ∙ sat_news o.effects says

  cost_place : cost_at x i ≡ effects_at x i + 1 + length (flatten (map effect_tape o.effects))
  cost_place = let long = effects_long o.effects says in let many = effects_many in omega arith

  cost_here : drop (cost_at x i) x ≡ sat (some o.cost) ∷ rest
  cost_here =
      ap (λ k. drop k x) cost_place
      ∙ behind x (effects_at x i + 1) (flatten (map effect_tape o.effects)) (sat (some o.cost) ∷ rest) effects_behind

  cost_number : number_at x (cost_at x i) ≡ sat_number o.cost
  cost_number = number_here x (cost_at x i) _ _ cost_here

  costs : cond (eqb (metric x) 0) 1 (number_at x (cost_at x i)) ≡ sat_number (cond b o.cost 1)
  costs = by_case b scale
    where
      by_case : (c : Bool) → metric x ≡ cond c 1 0 → cond (eqb (metric x) 0) 1 (number_at x (cost_at x i)) ≡ sat_number (cond c o.cost 1)
      by_case true is_one = rw is_one cost_number
      by_case false is_zero = rw is_zero

  pub action_told : action_at x i ≡ sat_action (meant_action b o)
  unfolding action_at
  action_told =
      ap (λ ps. record { precondition = ps; effects = map always (new_values x i); cost = cond (eqb (metric x) 0) 1 (number_at x (cost_at x i)) })
      (ap (λ ps. ps ++ old_values x i) prevail_told ∙ ap (λ qs. map sat_fact o.prevail ++ qs) olds
      ∙ sym (map-append sat_fact o.prevail (flatten (map (λ e. old_fact e.change) o.effects))))
      ∙ ap (λ es. record { precondition = map sat_fact (meant_action b o).precondition; effects = es; cost = cond (eqb (metric x) 0) 1 (number_at x (cost_at x i)) }) news
      ∙ ap (λ c. record { precondition = map sat_fact (meant_action b o).precondition; effects = map sat_effect (meant_action b o).effects; cost = c }) costs

  pub operator_over : drop (operator_end x i) x ≡ rest
  operator_over = behind_one x (cost_at x i) _ _ cost_here

-- lists whose elements have a line each
one_each : {A : Type 0} (f : A → Line) (cs : List A) → length (flatten (map (λ c. f c ∷ []) cs)) ≡ length cs
unfolding flatten
one_each f [] = refl
one_each f (c ∷ cs) = ap suc (one_each f cs)

module _ (o : Operator) where
  prevail_few : length o.prevail ≤ length (operator_lines o)
  unfolding counted
  prevail_few =
      let here = one_each (λ f. said (numbers (fact_numbers f))) o.prevail in
      let parts = length-append (counted fact_lines o.prevail) (counted effect_lines o.effects ++ (number_line o.cost ∷ keyword "end_operator" ∷ [])) in
      omega arith

  effects_few : length o.effects ≤ length (operator_lines o)
  unfolding counted
  effects_few =
      let here = one_each (λ e. record { bytes = numbers (effect_numbers e); barred = ltb 0 (length e.conditions) }) o.effects in
      let parts = length-append (counted fact_lines o.prevail) (counted effect_lines o.effects ++ (number_line o.cost ∷ keyword "end_operator" ∷ [])) in
      let more = length-append (counted effect_lines o.effects) (number_line o.cost ∷ keyword "end_operator" ∷ []) in
      omega arith

  effects_sayable : AllSayable (operator_lines o) → AllSayable (flatten (map effect_lines o.effects))
  unfolding counted
  effects_sayable says =
      let rest = (sayable_parts (counted fact_lines o.prevail) (counted effect_lines o.effects ++ (number_line o.cost ∷ keyword "end_operator" ∷ [])) says.1.1).1 in
      (sayable_parts (counted effect_lines o.effects) (number_line o.cost ∷ keyword "end_operator" ∷ []) rest).0.1

module _ (x : List ℕ) (b : Bool) (scale : metric x ≡ cond b 1 0) where
  actions_told : (os : List Operator) (i : ℕ) (rest : List ℕ) → drop i x ≡ flatten (map operator_tape os) ++ rest
      → length (flatten (map operator_lines os)) ≤ most_number → AllSayable (flatten (map operator_lines os))
      → actions_from x i (length os) ≡ map sat_action (map (meant_action b) os)
  unfolding actions_from flatten
  actions_told [] i rest is few says = refl
  actions_told (o ∷ os) i rest is few says =
      let (here, others) = sayable_parts (operator_lines o) (flatten (map operator_lines os)) says in
      let lengths : length (operator_lines o ++ flatten (map operator_lines os)) ≡ length (operator_lines o) + length (flatten (map operator_lines os)) =
      length-append (operator_lines o) (flatten (map operator_lines os)) in
      let first : drop i x ≡ operator_tape o ++ (flatten (map operator_tape os) ++ rest) =
      is ∙ append_assoc (operator_tape o) (flatten (map operator_tape os)) rest in
      let few_prevail : length o.prevail ≤ most_number = omega (arith, prevail_few o) in
      let few_effects : length o.effects ≤ most_number = omega (arith, effects_few o) in
      ap (λ a. a ∷ actions_from x (operator_end x i) (length os))
      (action_told x b scale o i (flatten (map operator_tape os) ++ rest) first few_prevail few_effects (effects_sayable o here))
      ∙ ap (λ r. sat_action (meant_action b o) ∷ r)
      (actions_told os (operator_end x i) rest
      (operator_over x b scale o i (flatten (map operator_tape os) ++ rest) first few_prevail few_effects (effects_sayable o here)) (omega arith) others)

-- numbers one behind the other
table_told : (x : List ℕ) (i k : ℕ) (ys rest : List ℕ) → drop (i + k) x ≡ ys ++ rest → table (λ v. number_at x (i + v)) k (length ys) ≡ ys
unfolding table
table_told x i k [] rest is = refl
table_told x i k (y ∷ ys) rest is =
    let next : i + k + 1 ≡ i + (k + 1) = omega arith in
    let here : number_at x (i + k) ≡ y = number_here x (i + k) _ _ is in
    ap (λ v. v ∷ table (λ w. number_at x (i + w)) (k + 1) (length ys)) here
    ∙ ap (λ r. y ∷ r) (table_told x i (k + 1) ys rest (ap (λ j. drop j x) (sym next) ∙ behind_one x (i + k) _ _ is))

singles : {A : Type 0} (f : A → ℕ) (cs : List A) → flatten (map (λ c. f c ∷ []) cs) ≡ map f cs
unfolding flatten
singles f [] = refl
singles f (c ∷ cs) = ap (λ r. f c ∷ r) (singles f cs)

-- a text that a sheet can say, part by part
many_few : {A : Type 0} (f : A → List Line) → ((a : A) → 1 ≤ length (f a)) → (cs : List A) → length cs ≤ length (flatten (map f cs))
unfolding flatten
many_few f some_line [] = omega arith
many_few f some_line (c ∷ cs) = omega (arith, length-append (f c) (flatten (map f cs)), some_line c, many_few f some_line cs)

module _ (t : Text) where
  abbrev from_operators : List Line
  from_operators = counted operator_lines t.operators ++ (axioms_line (length t.axioms) ∷ flatten (map axiom_lines t.axioms))

  abbrev from_goal : List Line
  from_goal = counted fact_lines t.goal ++ (keyword "end_goal" ∷ from_operators)

  abbrev from_state : List Line
  from_state = flatten (map value_lines t.state) ++ (keyword "end_state" ∷ keyword "begin_goal" ∷ from_goal)

  abbrev from_groups : List Line
  from_groups = counted group_lines t.groups ++ (keyword "begin_state" ∷ from_state)

  abbrev from_variables : List Line
  from_variables = counted variable_lines t.variables ++ from_groups

  record SayableParts : Type 0 where
    pub variables : length t.variables ≤ most_number
    pub goal : length t.goal ≤ most_number
    pub operators : length t.operators ≤ most_number
    pub operator_lines_few : length (flatten (map operator_lines t.operators)) ≤ most_number
    pub operators_sayable : AllSayable (flatten (map operator_lines t.operators))

  sayable_text : length (lines t) ≤ most_number → AllSayable (lines t) → SayableParts
  unfolding counted lines
  sayable_text few says =
      let groups = (sayable_parts (counted variable_lines t.variables) from_groups says.1.1.1.1.1.1).1 in
      let state = (sayable_parts (counted group_lines t.groups) (keyword "begin_state" ∷ from_state) groups).1.1 in
      let goals = (sayable_parts (flatten (map value_lines t.state)) (keyword "end_state" ∷ keyword "begin_goal" ∷ from_goal) state).1.1.1 in
      let operators = (sayable_parts (counted fact_lines t.goal) (keyword "end_goal" ∷ from_operators) goals).1.1 in
      let os = (sayable_parts (counted operator_lines t.operators) (axioms_line (length t.axioms) ∷ flatten (map axiom_lines t.axioms)) operators).0 in
      let l1 = length-append (counted variable_lines t.variables) from_groups in
      let l2 = length-append (counted group_lines t.groups) (keyword "begin_state" ∷ from_state) in
      let l3 = length-append (flatten (map value_lines t.state)) (keyword "end_state" ∷ keyword "begin_goal" ∷ from_goal) in
      let l4 = length-append (counted fact_lines t.goal) (keyword "end_goal" ∷ from_operators) in
      let l5 = length-append (counted operator_lines t.operators) (axioms_line (length t.axioms) ∷ flatten (map axiom_lines t.axioms)) in
      let variables_many = many_few variable_lines (λ v. omega arith) t.variables in
      let operators_many = many_few operator_lines (λ o. omega arith) t.operators in
      let goals_many = many_few fact_lines (λ f. omega arith) t.goal in
      record {
        variables = omega arith;
        goal = omega arith;
        operators = omega arith;
        operator_lines_few = omega arith;
        operators_sayable = os.1;
      }

-- the numbers kept of a text, place by place
module _ (t : Text) (values : length t.state ≡ length t.variables) (parts : SayableParts t) where
  abbrev x : List ℕ
  x = text_tape t

  abbrev n : ℕ
  n = length t.variables

  abbrev range_numbers : List ℕ
  range_numbers = map sat_number (map (λ v. length v.values) t.variables)

  abbrev start_numbers : List ℕ
  start_numbers = map sat_number t.state

  abbrev operator_numbers : List ℕ
  operator_numbers = counted_tape operator_tape t.operators ++ []

  abbrev goal_numbers : List ℕ
  goal_numbers = counted_tape fact_tape t.goal ++ operator_numbers

  scale : metric x ≡ cond t.metric 1 0
  scale = by_case t.metric
    where
      by_case : (b : Bool) → sat (some (cond b 1 0)) ≡ cond b 1 0
      by_case true = refl
      by_case false = refl

  count : variables x ≡ n
  count = sat_small n parts.variables

  ranges_are : flatten (map variable_tape t.variables) ≡ range_numbers
  ranges_are = singles (λ v. sat_number (length v.values)) t.variables ∙ sym (map-map sat_number (λ v. length v.values) t.variables)

  starts_are : flatten (map value_tape t.state) ≡ start_numbers
  starts_are = singles sat_number t.state

  from_ranges : drop 2 x ≡ range_numbers ++ (start_numbers ++ goal_numbers)
  from_ranges =
      ap (λ ys. ys ++ (flatten (map value_tape t.state) ++ goal_numbers)) ranges_are ∙ ap (λ ys. range_numbers ++ (ys ++ goal_numbers)) starts_are

  ranges_long : length range_numbers ≡ n
  ranges_long = length-map (map (λ v. length v.values) t.variables) sat_number ∙ length-map t.variables (λ v. length v.values)

  starts_long : length start_numbers ≡ n
  starts_long = length-map t.state sat_number ∙ values

  from_starts : drop (2 + n) x ≡ start_numbers ++ goal_numbers
  from_starts = ap (λ k. drop (2 + k) x) (sym ranges_long) ∙ behind x 2 range_numbers (start_numbers ++ goal_numbers) from_ranges

  from_goals : drop (goal_at x) x ≡ goal_numbers
  from_goals =
      let place : goal_at x ≡ 2 + n + length start_numbers = let many = count in let long = starts_long in omega arith in
      ap (λ k. drop k x) place ∙ behind x (2 + n) start_numbers goal_numbers from_starts

  goals_many : number_at x (goal_at x) ≡ length t.goal
  goals_many = number_here x (goal_at x) _ _ from_goals ∙ sat_small (length t.goal) parts.goal

  from_ops : drop (operators_at x) x ≡ operator_numbers
  from_ops =
      let place : operators_at x ≡ goal_at x + length (counted_tape fact_tape t.goal) =
      let many = goals_many in let long = facts_long t.goal in omega arith in
      ap (λ k. drop k x) place ∙ behind x (goal_at x) (counted_tape fact_tape t.goal) operator_numbers from_goals

  ops_many : number_at x (operators_at x) ≡ length t.operators
  ops_many = number_here x (operators_at x) _ _ from_ops ∙ sat_small (length t.operators) parts.operators

  ranges_told : ranges x ≡ range_numbers
  unfolding ranges
  ranges_told = ap (table (range_of x) 0) (count ∙ sym ranges_long) ∙ table_told x 2 0 range_numbers (start_numbers ++ goal_numbers) from_ranges

  starts_told : state x ≡ start_numbers
  unfolding state
  starts_told =
      let place : 2 + n + 0 ≡ 2 + n = omega arith in
      ap (λ m. table (λ v. number_at x (2 + m + v)) 0 (variables x)) count
      ∙ ap (table (λ v. number_at x (2 + n + v)) 0) (count ∙ sym starts_long)
      ∙ table_told x (2 + n) 0 start_numbers goal_numbers (ap (λ k. drop k x) place ∙ from_starts)

  goals_told : goal x ≡ map sat_fact t.goal
  unfolding goal
  goals_told =
      ap (facts_at x fact_wide 1 (goal_at x + 1)) goals_many
      ∙ facts_told x t.goal (goal_at x + 1) operator_numbers (behind_one x (goal_at x) _ _ from_goals)

  ops_told : actions_from x (operators_at x + 1) (number_at x (operators_at x)) ≡ map sat_action (map (meant_action t.metric) t.operators)
  ops_told =
      ap (actions_from x (operators_at x + 1)) ops_many
      ∙ actions_told x t.metric scale t.operators (operators_at x + 1) [] (behind_one x (operators_at x) _ _ from_ops)
      parts.operator_lines_few parts.operators_sayable

  task_parts : meaning x ≡ sat_task (meant t)
  unfolding meaning meant
  task_parts =
      ap (λ ds. record { domains = ds; actions = actions_from x (operators_at x + 1) (number_at x (operators_at x)); initial = state x; goal = goal x }) ranges_told
      ∙ ap (λ p. record { domains = range_numbers; actions = p; initial = state x; goal = goal x }) ops_told
      ∙ ap (λ s. record { domains = range_numbers; actions = map sat_action (map (meant_action t.metric) t.operators); initial = s; goal = goal x }) starts_told
      ∙ ap (λ g. record { domains = range_numbers; actions = map sat_action (map (meant_action t.metric) t.operators); initial = start_numbers; goal = g }) goals_told

pub task_told : (t : Text) → length t.state ≡ length t.variables → length (lines t) ≤ most_number → AllSayable (lines t)
    → meaning (text_tape t) ≡ sat_task (meant t)
task_told t values few says = task_parts t values (sayable_text t few says)
