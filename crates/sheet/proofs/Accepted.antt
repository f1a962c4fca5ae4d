-- The words of an accepted task mean a well-formed SAS+ task within the limits, whose actions never lead out of its domains: each member of a table is
-- made of words that a check has passed, and a group of facts rises because each fact was compared with the one before it. Assumes nothing.
use Rattle.std.specs.Prelude.{None}
use Prim.Native.Nat.{ℕ, zero, suc, ◌+◌, ◌-◌, ◌≤◌, ◌<◌}
use native.Mathlib.Omega.{arith}
use mathlib.Core.Path.{◌≡◌, refl, sym, ◌∙◌, ap}
use mathlib.Core.Bool.{Bool, true, false, ◌&&◌}
use mathlib.Core.Option.{some}
use mathlib.Core.List.Memᴰ
use mathlib.Core.List.{List, map, Memᴰ}
use lib.ListN.{length, get_or}
use lib.Dec.{ltb, leb}
use borrow.Author.Tests.{ltb-false, leb-false, lt-ltb, eqb-true, not-false}
use Rattle.refusal.specs.Place.{when, first_of}
use Rattle.sas.specs.Task.{Fact, Assignment, State, Effect, always, Action}
use Rattle.sas.specs.Plan.{run, written}
use Rattle.sas.specs.Conflict.{conflicting}
use Rattle.sas.specs.Between.WellFormed.{Known, Rising, Within, ActionFormed, Plain, WellFormed}
use Rattle.sas.specs.Between.WellFormed.Rising.{empty, fact}
use Rattle.sas.proofs.WellFormedLaws.{plain_known, plain_conditions}
use Rattle.sas.proofs.EffectLaws.{each_written}
use Rattle.sas.proofs.RunLaws.{run_within}
use Rattle.sheet.specs.Limits.{limits}
use Rattle.sheet.specs.Layout.{word, edition, first_edition, has_conditions, variables, actions, domain, start, goal_start, goal_end, cost_word, precondition_start, effect_start, effect_end, effect_fact}
use Rattle.sheet.specs.Decode.{table, fact_of, facts, domains, initial, goal, effect_words, effect_at, effects, action, task}
use Rattle.sheet.specs.Causes.{bad_edition, bad_variable, variable_place, bad_fact, group_place, bad_effect, effect_place, effects_place, action_place, fact_place, cost_place, conflict_place, Accepted}
use Rattle.sheet.specs.Between.Encode.{Unfalling}
use Rattle.refusal.proofs.PlaceLaws.{or_else_nowhere, when_nowhere, first_nowhere, first_of_nowhere}
use Rattle.sheet.proofs.CauseLaws.{Clear, accepted_clear, none_of_three, not_both}
use Rattle.sheet.proofs.TableLaws.{table_length, table_at, table_member, table_member_at}
use Rattle.sheet.proofs.ChainLaws.{first_in_nowhere, clear_unfalling}

pub domains_length : (w : List ℕ) → length (domains w) ≡ variables w
unfolding domains
domains_length w = table_length (domain w) 0 (variables w)

pub domains_at : (w : List ℕ) (v : ℕ) → v < variables w → get_or (domains w) v 0 ≡ domain w v
unfolding domains
domains_at w v h = table_at (domain w) 0 (variables w) v v 0 h (omega arith)

-- the action of each number below the number of actions is one of the task's
pub action_known : (w : List ℕ) (a : ℕ) → a < actions w → Memᴰ (action w a) (task w).actions
unfolding task
action_known w a h = table_member (action w) 0 (actions w) a (omega arith) (omega arith)

-- and the task has no other
action_numbered : (w : List ℕ) {a : Action} → Memᴰ a (task w).actions → (k : ℕ) × (k < actions w) × (a ≡ action w k)
unfolding task
action_numbered w m = let (k, low, high, e) = table_member_at (action w) 0 (actions w) m in (k, omega arith, e)

-- variable v has a value, no more values than the limit, and begins at one of them
record GoodVariable (w : List ℕ) (v : ℕ) : Type 0 where
  some_value : 1 ≤ domain w v
  values : domain w v ≤ limits.values
  starts : start w v < domain w v

good_variable : (w : List ℕ) (v : ℕ) → bad_variable w v ≡ false → GoodVariable w v
unfolding bad_variable
good_variable w v h =
    let (no_value, beyond, outside) = none_of_three (ltb (domain w v) 1) (ltb limits.values (domain w v)) (leb (domain w v) (start w v)) h in
    record { some_value = ltb-false _ _ no_value; values = ltb-false _ _ beyond; starts = leb-false _ _ outside }

-- the fact at word i of a group that begins at word `from` is known, and its variable above that of the fact before it
record GoodFact (w : List ℕ) (from i : ℕ) : Type 0 where
  known : Known (domains w) (fact_of (word w i))
  rising : (before : ℕ) → from ≤ before → before + 1 ≡ i → (fact_of (word w before)).variable < (fact_of (word w i)).variable

good_fact : (w : List ℕ) (from i : ℕ) → bad_fact w from i ≡ false → GoodFact w from i
unfolding bad_fact
good_fact w from i h =
    let f : Fact = fact_of (word w i) in
    let falling : Bool = leb f.variable (fact_of (word w (i - 1))).variable in
    let (variable, value, rising) = none_of_three (leb (variables w) f.variable) (leb (domain w f.variable) f.value) (ltb from i && falling) h in
    let below : f.variable < variables w = leb-false _ _ variable in
    record {
      known = record { variable = rw domains_length below; value = rw (domains_at w f.variable below) (leb-false _ _ value) };
      rising = λ before low next.
          let there : i - 1 ≡ before = omega arith in
          rw (← there) (leb-false _ _ (not_both (ltb from i) falling rising (lt-ltb from i (omega arith))));
    }

-- the fact of an effect of edition 2 that is not bad is known
effect_known : (w : List ℕ) (from end i : ℕ) → bad_effect w from end i ≡ false → Known (domains w) (fact_of (word w (effect_fact w end i)))
unfolding bad_effect
effect_known w from end i h =
    let f : Fact = fact_of (word w (effect_fact w end i)) in
    let (variable, value, unfallen) = none_of_three (leb (variables w) f.variable) (leb (domain w f.variable) f.value) _ h in
    let below : f.variable < variables w = leb-false _ _ variable in
    record { variable = rw domains_length below; value = rw (domains_at w f.variable below) (leb-false _ _ value) }

module _ (w : List ℕ) (from end : ℕ) (clear : group_place w from end ≡ None) where
  good : (i : ℕ) → from ≤ i → i < end → GoodFact w from i
  unfolding group_place
  good i low high = good_fact w from i (first_nowhere (bad_fact w from) from end clear i low high)

  -- the n facts after the one at word i
  rising_after : (n i : ℕ) → from ≤ i → i + 1 + n ≤ end → Rising (domains w) (suc (fact_of (word w i)).variable) (table (λ j. fact_of (word w j)) (i + 1) n)
  unfolding table
  rising_after zero i low high = empty
  rising_after (suc n) i low high =
      let here : GoodFact w from (i + 1) = good (i + 1) (omega arith) (omega arith) in
      fact here.known (here.rising i low refl) (rising_after n (i + 1) (omega arith) (omega arith))

  -- the first n facts
  rising_first : (n : ℕ) → n ≤ end - from → Rising (domains w) 0 (table (λ j. fact_of (word w j)) from n)
  unfolding table
  rising_first zero h = empty
  rising_first (suc n) h = fact {from = 0} (good from (omega arith) (omega arith)).known (omega arith) (rising_after n from (omega arith) (omega arith))

  -- a group in which no fact is bad is an assignment over the domains
  rising_group : Rising (domains w) 0 (facts w from end)
  unfolding facts
  rising_group = rising_first (end - from) (omega arith)

-- where no fact is bad, the goal and the preconditions are assignments over the domains, and effects are what their edition has
module _ (w : List ℕ) (no_bad_fact : fact_place w ≡ None) where
  facts_clear : (group_place w (goal_start w) (goal_end w) ≡ None) × (first_of (action_place w) 0 (actions w) ≡ None)
  unfolding fact_place
  facts_clear = or_else_nowhere (group_place w (goal_start w) (goal_end w)) (first_of (action_place w) 0 (actions w)) no_bad_fact

  pub goal_formed : Rising (domains w) 0 (goal w)
  unfolding goal
  goal_formed = rising_group w (goal_start w) (goal_end w) facts_clear.0

  groups_clear : (a : ℕ) → a < actions w
      → (group_place w (precondition_start w a) (effect_start w a) ≡ None) × (effects_place w (effect_start w a) (effect_end w a) ≡ None)
  unfolding action_place
  groups_clear a h =
      or_else_nowhere (group_place w (precondition_start w a) (effect_start w a)) (effects_place w (effect_start w a) (effect_end w a))
      (first_of_nowhere (action_place w) 0 (actions w) facts_clear.1 a (omega arith) h)

  pub precondition_formed : (a : ℕ) → a < actions w → Rising (domains w) 0 (action w a).precondition
  unfolding action
  precondition_formed a h = rising_group w _ _ (groups_clear a h).0

  -- in edition 1 an action is plain
  pub action_plain : has_conditions w ≡ false → (a : ℕ) → a < actions w → Plain (domains w) (action w a)
  unfolding action effects effects_place written
  action_plain first a h =
      let q : Assignment = facts w (effect_start w a) (effect_end w a) in
      let all : (action w a).effects ≡ map always q = rw first in
      let facts_of : map (λ e. e.fact) (action w a).effects ≡ q = ap (map (λ e. e.fact)) all ∙ each_written q in
      record { without_condition = all ∙ ap (map always) (sym facts_of); rising = rw facts_of (rising_group w _ _ (rw first at (groups_clear a h).1)) }

  -- in edition 2 the facts of an action's effects don't fall, and each effect has a condition over the domains and a known fact
  pub action_in_order : has_conditions w ≡ true → (a : ℕ) → a < actions w → Unfalling 0 (written (action w a))
  unfolding action effects_place written
  action_in_order second a h = rw second (clear_unfalling w (effect_start w a) (effect_end w a) (rw second at (groups_clear a h).1))

  effect_formed : has_conditions w ≡ true → (a : ℕ) → a < actions w → (e : Effect) → Memᴰ e (action w a).effects
      → Rising (domains w) 0 e.condition × Known (domains w) e.fact
  unfolding action effects effects_place effect_place effect_at
  effect_formed second a h e m =
      let from : ℕ = effect_start w a in
      let end : ℕ = effect_end w a in
      let (i, among, same) = Memᴰ.of_map (effect_at w end) (effect_words w end from (end - from)) (rw second at m) in
      let clear_here : effect_place w from end i ≡ None = first_in_nowhere (effect_place w from end) (rw second at (groups_clear a h).1) among in
      let (group, own) = or_else_nowhere (group_place w (i + 1) (effect_fact w end i)) (when (bad_effect w from end i) (effect_fact w end i)) clear_here in
      rw (← same) (rising_group w _ _ group, effect_known w from end i (when_nowhere (bad_effect w from end i) (effect_fact w end i) own))

  pub effects_formed : (a : ℕ) → a < actions w → (e : Effect) → Memᴰ e (action w a).effects → Rising (domains w) 0 e.condition × Known (domains w) e.fact
  unfolding written
  effects_formed a h e m = by_case (has_conditions w) refl
    where
      by_case : (b : Bool) → has_conditions w ≡ b → Rising (domains w) 0 e.condition × Known (domains w) e.fact
      by_case true second = effect_formed second a h e m
      by_case false first =
          let plain : Plain (domains w) (action w a) = action_plain first a h in
          (rw (plain_conditions plain e m) empty, plain_known plain (Memᴰ.map (λ d. d.fact) m))

module _ (w : List ℕ) (accepted : Accepted w) where
  clear : Clear w
  clear = accepted_clear w accepted

  variable : (v : ℕ) → v < variables w → GoodVariable w v
  unfolding variable_place
  variable v h = good_variable w v (first_nowhere (bad_variable w) 0 (variables w) clear.variables v (omega arith) h)

  -- each domain has 1 to 256 values
  pub domain_limits : (v : ℕ) → v < variables w → (1 ≤ get_or (domains w) v 0) × (get_or (domains w) v 0 ≤ limits.values)
  domain_limits v h = rw (domains_at w v h) ((variable v h).some_value, (variable v h).values)

  initial_within : Within (domains w) (initial w)
  unfolding initial
  initial_within =
      record {
        complete = table_length (start w) 0 (variables w) ∙ sym (domains_length w);
        below = λ v h.
            let here : v < variables w = omega (arith, domains_length w) in
            rw (domains_at w v here, table_at (start w) 0 (variables w) v v 0 here (omega arith)) (variable v here).starts;
      }

  -- the edition is the first
  pub accepted_first : has_conditions w ≡ false
  unfolding bad_edition
  accepted_first = let first : edition w ≡ first_edition = eqb-true _ _ (not-false _ clear.edition) in rw first

  action_formed : (a : ℕ) → a < actions w → ActionFormed (domains w) (action w a)
  unfolding action written conflict_place
  action_formed a h =
      record {
        precondition = precondition_formed w clear.facts a h;
        conditions = λ e m. (effects_formed w clear.facts a h e m).0;
        known = λ f n. let (e, m, same) = Memᴰ.of_map (λ d. d.fact) (action w a).effects n in rw (← same) (effects_formed w clear.facts a h e m).1;
        consistent = first_nowhere (λ b. conflicting (action w b)) 0 (actions w) clear.conflicts a (omega arith) h;
      }

  -- every action of an accepted sheet of edition 1 is plain: this is where theorems about plain actions get it from
  pub first_plain : has_conditions w ≡ false → {a : Action} → Memᴰ a (task w).actions → Plain (domains w) a
  first_plain first m = let (k, h, e) = action_numbered w m in rw e (action_plain w clear.facts first k h)

  -- and of edition 2 one whose effects are in the order of their facts
  pub second_in_order : has_conditions w ≡ true → {a : Action} → Memᴰ a (task w).actions → Unfalling 0 (written a)
  second_in_order second m = let (k, h, e) = action_numbered w m in rw e (action_in_order w clear.facts second k h)

  pub accepted_plain : {a : Action} → Memᴰ a (task w).actions → Plain (domains w) a
  accepted_plain = first_plain accepted_first

  pub accepted_well_formed : WellFormed (task w)
  unfolding task
  accepted_well_formed =
      record {
        initial = initial_within;
        goal = goal_formed w clear.facts;
        actions = λ a m. let (k, h, e) = action_numbered w m in rw e (action_formed k h);
      }

  -- no action costs more than the limit
  pub cost_limit : {a : Action} → Memᴰ a (task w).actions → a.cost ≤ limits.cost
  unfolding action cost_place
  cost_limit m =
      let (k, h, e) = action_numbered w m in
      rw e (ltb-false _ _ (first_nowhere (λ a. ltb limits.cost (cost_word w a)) 0 (actions w) clear.costs k (omega arith) h))

  -- a state that actions of the task reach from its initial state is within its domains
  pub reached_within : {s : State} (p : List Action) → ((a : Action) → Memᴰ a p → Memᴰ a (task w).actions)
      → run (task w).initial p ≡ some s → Within (task w).domains s
  reached_within p known h = run_within (task w) accepted_well_formed p known h
