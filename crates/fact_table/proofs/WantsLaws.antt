-- A table tells the facts that are wanted before the steps of a plan: that of the goal does behind the last, and passed back along a step it does before it,
-- since in an accepted task each known fact has an entry of its own. Assumes nothing.
use Prim.Native.Nat.{ℕ, ◌<◌}
use native.Mathlib.Omega.{arith}
use mathlib.Core.Path.{◌≡◌, refl, ◌∙◌}
use mathlib.Core.Bool.{Bool, true, false, cond, not, ◌&&◌, ◌||◌, or-false}
use mathlib.Core.List.{List, [], ◌∷◌, Memᴰ}
use lib.ListN.{length, get_or, replicate, length-replicate, get_or-replicate}
use Rattle.sas.specs.Task.{Fact, Assignment, Action}
use Rattle.sas.specs.Plan.{written, needed}
use Rattle.sas.specs.Between.WellFormed.{Known, ActionFormed}
use Rattle.sas.proofs.WellFormedLaws.{rising_known}
use Rattle.sas.proofs.ActionLaws.{needed_known}
use Rattle.reduction.specs.Reduction.{Reduction}
use Rattle.reduction.specs.Between.Wanted.{has, wanted}
use Rattle.sheet.specs.declared.group.ActionFacts.{ActionFacts}
use Rattle.sheet.specs.Limits.{limits}
use Rattle.sheet.specs.Layout.{variables}
use Rattle.sheet.specs.Decode.{domains, goal, action, task}
use Rattle.sheet.specs.Between.Encode.{fact_word}
use Rattle.sheet.specs.Between.Group.{needed_group, facts_in}
use Rattle.sheet.specs.Between.Effects.{effects_of, written_in}
use Rattle.sheet.specs.Causes.{Accepted}
use Rattle.sheet.proofs.Parts.{accepted_measured}
use Rattle.sheet.proofs.Accepted.{domains_length, domain_limits, accepted_well_formed}
use Rattle.sheet.proofs.GroupLaws.{needed_facts}
use Rattle.sheet.proofs.EffectLaws.{effects_written}
use Rattle.fact_table.specs.Between.Tables.{most_facts, stamped, has_fact, passed_back, wanted_before, goal_table}
use Rattle.fact_table.proofs.StampLaws.{Small, stamped_length, stamped_at}

-- to pass a table back along the facts of an action is to pass it back along the action
pub passed_action : (w : List ℕ) (t : List Bool) (a : ℕ) (facts : ActionFacts) (flagged : Bool) → facts.precondition ≡ needed_group w a
    → facts.effects ≡ effects_of w a → passed_back t (facts_in w facts.precondition) (written_in w facts.effects) flagged ≡ wanted_before t (action w a) flagged
passed_action w t a facts flagged needs writes = rw (needs, writes, needed_facts w a, effects_written w a)

-- what two stamps leave at a fact, as a test
stamped_test : (x y had : Bool) → cond x true (cond y false had) ≡ (x || not y && had)
stamped_test true y had = refl
stamped_test false true had = refl
stamped_test false false had = refl

pub before_length : (t : List Bool) (a : Action) (b : Bool) → length (wanted_before t a b) ≡ length t
unfolding passed_back
before_length t a true = stamped_length (stamped t (written a) false) (needed a) true ∙ stamped_length t (written a) false
before_length t a false = stamped_length t (written a) false

pub goal_length : (w : List ℕ) → length (goal_table w) ≡ most_facts
unfolding goal_table
goal_length w = stamped_length (replicate most_facts false) (goal w) true ∙ length-replicate {A = Bool} most_facts false

module _ (w : List ℕ) (accepted : Accepted w) where
  -- a known fact has a word of its own in a table
  pub fits : (f : Fact) → Known (domains w) f → Small f × (fact_word f < most_facts)
  fits f known =
      let below : f.variable < variables w = omega (arith, known.variable, domains_length w) in
      let value : f.value < limits.values = omega (arith, known.value, (domain_limits w accepted f.variable below).1) in
      (value, omega (arith, (accepted_measured w accepted).variables))

  pub stamped_known : (t : List Bool) (q : Assignment) (x : Bool) (f : Fact) → length t ≡ most_facts → ((g : Fact) → Memᴰ g q → Known (domains w) g)
      → Known (domains w) f → get_or (stamped t q x) (fact_word f) false ≡ cond (has q f) x (get_or t (fact_word f) false)
  stamped_known t q x f sized known here = stamped_at t q x f (λ g m. (fits g (known g m)).0) (fits f here).0 (rw sized (fits f here).1)

  -- the table tells the facts that are wanted before the steps p, of which m flags some
  abbrev pub Wants : List Action → Reduction → List Bool → Type 0
  Wants p m t = (f : Fact) → Known (domains w) f → has_fact t (fact_word f) ≡ wanted (goal w) p m f

  pub wants_next : (a : Action) (p : List Action) (m : Reduction) (t : List Bool) (b : Bool) → length t ≡ most_facts → ActionFormed (domains w) a
      → Wants p m t → Wants (a ∷ p) (b ∷ m) (wanted_before t a b)
  unfolding wanted passed_back has_fact
  wants_next a p m t true sized formed wants f known =
      rw (
        stamped_known (stamped t (written a) false) (needed a) true f (stamped_length t (written a) false ∙ sized) (λ g n. needed_known a formed n) known,
        stamped_known t (written a) false f sized formed.known known,
        ← wants f known,
      )
      (stamped_test (has (needed a) f) (has (written a) f) (get_or t (fact_word f) false))
  wants_next a p m t false sized formed wants f known =
      rw (stamped_known t (written a) false f sized formed.known known, ← wants f known)
      (stamped_test false (has (written a) f) (get_or t (fact_word f) false))

  pub goal_known : (g : Fact) → Memᴰ g (goal w) → Known (domains w) g
  unfolding task
  goal_known g m = rising_known (accepted_well_formed w accepted).goal m

  -- an empty table stamped with the goal tells the facts that the goal wants
  pub goal_wants : Wants [] [] (goal_table w)
  unfolding wanted goal_table has_fact
  goal_wants f known =
      rw (
        stamped_known (replicate most_facts false) (goal w) true f (length-replicate {A = Bool} most_facts false) goal_known known,
        get_or-replicate most_facts (fact_word f) false false (fits f known).1,
      )
      (stamped_test (has (goal w) f) true false ∙ or-false (has (goal w) f))
