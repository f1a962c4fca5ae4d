-- The choices by the cases of the code: that of a step, one behind which a flagged step is written, and the walk along a plan that notes a choice at each
-- unflagged step. What the code calls is a variable here, with what is known of it as a premise. Assumes nothing.
use Prim.Native.Nat.{ℕ, suc, ◌+◌, ◌-◌, ◌<◌}
use native.Mathlib.Numerals.{add-one}
use native.Mathlib.Omega.{arith}
use mathlib.Core.Path.{◌≡◌, refl, sym, ◌∙◌}
use mathlib.Core.Bool.{Bool, true, false}
use mathlib.Core.List.{List, [], ◌∷◌, ◌++◌}
use lib.ListN.{length, get_or}
use lib.Seq.{set_out}
use lib.Dec.{ltb, eqb}
use borrow.Author.Tests.{eqb-true, ltb-false}
use Rattle.sas.specs.Task.{Assignment}
use Rattle.reduction.specs.Reduction.{Reduction}
use Rattle.sheet.specs.declared.group.ActionFacts.{ActionFacts}
use Rattle.sheet.specs.declared.effects.Effects.{Effects}
use Rattle.sheet.specs.Layout.{cost_word}
use Rattle.sheet.specs.Between.Group.{needed_group, facts_in}
use Rattle.sheet.specs.Between.Effects.{effects_of, written_in}
use Rattle.sheet.proofs.GroupLaws.{needed_facts}
use Rattle.sheet.proofs.EffectLaws.{effects_written}
use Rattle.fact_bits.specs.declared.bits.Behind.{Behind}
use Rattle.fact_bits.specs.Between.Bits.{no_bits}
use Rattle.packed_state.specs.declared.packed.Row.{Row}
use Rattle.packed_state.specs.Between.Chosen.{most_choices, open_before}
use Rattle.packed_state.proofs.ChosenLaws.{open_unflagged, open_rises}
use Rattle.choice_rows.specs.declared.rows.Choice.{Choice}
use Rattle.choice_rows.specs.Between.Rows.{all_bits, stamped_row, no_choice, choice_of, passed, passed_last, start_before, choices_before}
use Rattle.choice_rows.specs.Between.Rows.{PlanChoices, no_choices, with_choice, with_passed}
use Rattle.choice_rows.proofs.ChoiceLaws.{choices_long}

-- a choice whose rows of writes are stamped
pub passed_stamped : (c : Choice) (q : Assignment) (struck kept : Row) → struck ≡ stamped_row c.struck all_bits q → kept ≡ stamped_row c.kept all_bits q
    → record { cost = c.cost; strike = c.strike; keep = c.keep; useful = c.useful; struck = struck; kept = kept } ≡ passed c q
unfolding passed
passed_stamped c q struck kept first second = rw (first, second)

-- the choice of a step, noted where there was none
pub choice_made : (w : List ℕ) (a price : ℕ) (bits : Behind) (facts : ActionFacts) → facts.precondition ≡ needed_group w a → facts.effects ≡ effects_of w a
    → price ≡ cost_word w a → (c : Choice) → c ≡ no_choice → (strike keep useful kept : Row)
    → strike ≡ stamped_row c.strike bits.wanted (written_in w facts.effects) → keep ≡ stamped_row c.keep all_bits (facts_in w facts.precondition)
    → useful ≡ stamped_row c.useful (all_bits - bits.useless) (written_in w facts.effects) → kept ≡ stamped_row c.kept all_bits (written_in w facts.effects)
    → record { cost = price; strike = strike; keep = keep; useful = useful; struck = c.struck; kept = kept } ≡ choice_of w a bits
unfolding choice_of
choice_made w a price bits facts needs writes costs c none strike keep useful kept first second third fourth =
    rw (costs, first, second, third, fourth, none, needs, writes) (rw (effects_written w a, needed_facts w a))

-- the steps before index i are noted
pub record Choosing (w l : List ℕ) (flags : Reduction) (behind : List Behind) (cs : PlanChoices) (i : ℕ) : Type 0 where
  pub started : cs.start ≡ start_before w l flags i
  pub filled : cs.steps ≡ choices_before w l flags behind i

module _ (w l : List ℕ) (flags : Reduction) (behind : List Behind) where
  -- none is
  pub choosing_start : (cs : PlanChoices) → cs ≡ no_choices → Choosing w l flags behind cs 0
  unfolding start_before choices_before
  choosing_start cs none = record { started = rw none; filled = rw none }

  module _ (cs : PlanChoices) (i : ℕ) (so_far : Choosing w l flags behind cs i) where
    -- there is one choice for each unflagged step
    pub steps_counted : length cs.steps ≡ open_before flags i
    steps_counted = rw so_far.filled (choices_long w l flags behind i)

    -- a flagged step is written behind the last choice, or in front of the first
    pub flagged_more : get_or flags i false ≡ true → (effects : Effects) → effects ≡ effects_of w (get_or l i 0)
        → (after : PlanChoices) → after ≡ with_passed cs (written_in w effects) → Choosing w l flags behind after (i + 1)
    unfolding start_before choices_before with_passed passed_last
    flagged_more up effects writes after passes = by_case (eqb (length cs.steps) 0) refl
      where
        by_case : (b : Bool) → eqb (length cs.steps) 0 ≡ b → Choosing w l flags behind after (i + 1)
        by_case true none =
            record {
              started = rw (add-one, up, ← steps_counted, none, passes, none, ← so_far.started, writes, effects_written w (get_or l i 0));
              filled =
                  rw (add-one, up, passes, none, ← so_far.filled)
                  (sym (set_out cs.steps (length cs.steps - 1) _ (omega (arith, eqb-true (length cs.steps) 0 none))));
            }
        by_case false some =
            record {
              started = rw (add-one, up, ← steps_counted, some, passes, some) so_far.started;
              filled = rw (add-one, up, passes, some, ← so_far.filled, writes, effects_written w (get_or l i 0));
            }

    module _ (down : get_or flags i false ≡ false) where
      -- an unflagged one has its own
      pub choice_more : (after : PlanChoices)
          → after ≡ record { start = cs.start; steps = cs.steps ++ choice_of w (get_or l i 0) (get_or behind i no_bits) ∷ [] }
          → Choosing w l flags behind after (i + 1)
      unfolding start_before choices_before
      choice_more after adds =
          record { started = rw (add-one, down, adds) so_far.started; filled = rw (add-one, down, adds, ← so_far.filled) }

      -- which is added where there is room
      pub unflagged_more : ltb (length cs.steps) most_choices ≡ true → (after : PlanChoices)
          → after ≡ with_choice cs (choice_of w (get_or l i 0) (get_or behind i no_bits)) → Choosing w l flags behind after (i + 1)
      unfolding with_choice
      unflagged_more room after adds = choice_more after (adds ∙ rw room)

      -- where there is none there are too many
      pub too_many : ltb (length cs.steps) most_choices ≡ false → i < length l → most_choices < open_before flags (length l)
      too_many full inside =
          omega (arith, steps_counted, ltb-false (length cs.steps) most_choices full, open_unflagged flags i down, open_rises flags (suc i) (length l) inside)
