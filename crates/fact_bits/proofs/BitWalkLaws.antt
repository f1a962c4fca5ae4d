-- The walk along a plan from its last step that packs the bits of each step: at index i it has the words of the unflagged steps from i on and the tables of
-- what is wanted before them and of what is not needed. What the code calls is a variable here, with what is known of it as a premise. Assumes nothing.
use Prim.Native.Nat.{ℕ, ◌+◌, ◌≤◌, ◌<◌}
use native.Mathlib.Nat.{add-zero}
use native.Mathlib.Omega.{arith}
use mathlib.Core.Path.{◌≡◌, refl, sym, ◌∙◌, ap}
use mathlib.Core.Bool.{Bool, true, false}
use mathlib.Core.List.{List, [], ◌∷◌}
use lib.ListN.{length, get_or, drop, set, replicate, length-set, length-replicate, drop_of_length-le}
use lib.Seq.{drop-drop, get_or-drop, get_or-set_same, get_or-set_other}
use lib.Dec.{eqb}
use borrow.Author.Tests.{eqb-true, eqb-false}
use Rattle.reduction.specs.Reduction.{Reduction}
use Rattle.sheet.specs.declared.group.Group.{Group}
use Rattle.sheet.specs.declared.group.ActionFacts.{ActionFacts}
use Rattle.sheet.specs.Decode.{action}
use Rattle.sheet.specs.Between.Group.{goal_group, needed_group, facts_in}
use Rattle.sheet.specs.Between.Effects.{effects_of, written_in}
use Rattle.sheet.proofs.GroupLaws.{goal_facts, needed_facts}
use Rattle.sheet.proofs.EffectLaws.{effects_written}
use Rattle.plan.specs.Limits.{most_steps}
use Rattle.plan.proofs.FaultLaws.{drop_next}
use Rattle.fact_table.specs.Between.Tables.{most_facts, stamped, passed_back, wanted_before, goal_table}
use Rattle.fact_table.proofs.StampLaws.{stamped_length}
use Rattle.fact_table.proofs.WantsLaws.{passed_action, before_length}
use Rattle.fact_bits.specs.declared.bits.Behind.{Behind}
use Rattle.fact_bits.specs.Between.Bits.{packed, table_before, unneeded_behind, step_bits, useless_bits, no_bits, ToldBehind}

module _ (w l : List ℕ) (flags : Reduction) where
  -- the words of the unflagged steps from index i on are as told
  pub record BitsFrom (i : ℕ) (bits : List Behind) : Type 0 where
    pub sized : length bits ≡ most_steps
    pub wants : (k : ℕ) → i ≤ k → k < length l → k < most_steps → get_or flags k false ≡ false → (get_or bits k no_bits).wanted ≡ step_bits w l flags k
    pub idles : (k : ℕ) → i ≤ k → k < length l → k < most_steps → get_or flags k false ≡ false → (get_or bits k no_bits).useless ≡ useless_bits w l k

  module _ (i : ℕ) (bits : List Behind) (so_far : BitsFrom (i + 1) bits) where
    -- a step that is flagged or past the limit needs none
    bits_passed : (i < most_steps → get_or flags i false ≡ false → ⊥) → BitsFrom i bits
    bits_passed barred =
        record {
          sized = so_far.sized;
          wants = λ k above below within down. so_far.wants k (later k above within down) below within down;
          idles = λ k above below within down. so_far.idles k (later k above within down) below within down;
        }
      where
        later : (k : ℕ) → i ≤ k → k < most_steps → get_or flags k false ≡ false → i + 1 ≤ k
        later k above within down = by_case (eqb k i) refl
          where
            by_case : (b : Bool) → eqb k i ≡ b → i + 1 ≤ k
            by_case true e = let here : k ≡ i = eqb-true k i e in absurd (barred (omega arith) (rw (← here) down))
            by_case false e = omega (arith, eqb-false k i e)

    -- another has its two
    bits_noted : i < most_steps → (b : Behind) → b.wanted ≡ step_bits w l flags i → b.useless ≡ useless_bits w l i → BitsFrom i (set bits i b)
    bits_noted inside b wanted useless =
        record {
          sized = length-set bits i b ∙ so_far.sized;
          wants = λ k above below within down. wanted_case k above below within down (eqb k i) refl;
          idles = λ k above below within down. useless_case k above below within down (eqb k i) refl;
        }
      where
        here : get_or (set bits i b) i no_bits ≡ b
        here = get_or-set_same bits i b no_bits (omega (arith, so_far.sized))

        wanted_case : (k : ℕ) → i ≤ k → k < length l → k < most_steps → get_or flags k false ≡ false → (c : Bool) → eqb k i ≡ c
            → (get_or (set bits i b) k no_bits).wanted ≡ step_bits w l flags k
        wanted_case k above below within down true e = rw (eqb-true k i e, here) wanted
        wanted_case k above below within down false e =
            ap (λ x. x.wanted) (get_or-set_other bits i k b no_bits (eqb-false k i e)) ∙ so_far.wants k (omega (arith, eqb-false k i e)) below within down

        useless_case : (k : ℕ) → i ≤ k → k < length l → k < most_steps → get_or flags k false ≡ false → (c : Bool) → eqb k i ≡ c
            → (get_or (set bits i b) k no_bits).useless ≡ useless_bits w l k
        useless_case k above below within down true e = rw (eqb-true k i e, here) useless
        useless_case k above below within down false e =
            ap (λ x. x.useless) (get_or-set_other bits i k b no_bits (eqb-false k i e)) ∙ so_far.idles k (omega (arith, eqb-false k i e)) below within down

  -- where the walk stands before index i, with the words and the tables that it has there
  pub record BehindFrom (i : ℕ) (bits : List Behind) (wanting unneeded : List Bool) : Type 0 where
    pub reached : i ≤ length l
    pub wanting_room : length wanting ≡ most_facts
    pub unneeded_room : length unneeded ≡ most_facts
    pub words : BitsFrom i bits
    pub wants : wanting ≡ table_before w (drop i l) (drop i flags)
    pub idles : unneeded ≡ unneeded_behind w (drop i l)

  -- behind the last step, with the goal's facts stamped into an empty table and out of a full one
  pub behind_end : (table full : List Bool) (g h : Group) → g ≡ goal_group w → table ≡ stamped (replicate most_facts false) (facts_in w g) true
      → h ≡ goal_group w → full ≡ stamped (replicate most_facts true) (facts_in w h) false
      → BehindFrom (length l) (replicate most_steps no_bits) table full
  unfolding table_before unneeded_behind goal_table
  behind_end table full g h group stamps group' stamps' =
      let none : drop (length l) l ≡ [] = drop_of_length-le l {i = length l} (omega arith) in
      record {
        reached = omega arith;
        wanting_room = rw (stamps, stamped_length) (length-replicate {A = Bool} most_facts false);
        unneeded_room = rw (stamps', stamped_length) (length-replicate {A = Bool} most_facts true);
        words =
            record {
              sized = length-replicate {A = Behind} most_steps no_bits;
              wants = λ k above below within down. absurd (omega arith);
              idles = λ k above below within down. absurd (omega arith);
            };
        wants = rw none (stamps ∙ rw (group, goal_facts w));
        idles = rw none (stamps' ∙ rw (group', goal_facts w));
      }

  -- before the first step
  pub behind_start : (bits : List Behind) (wanting unneeded : List Bool) → BehindFrom 0 bits wanting unneeded → ToldBehind w l flags bits
  behind_start bits wanting unneeded along =
      record {
        sized = along.words.sized;
        wants = λ k below within unflagged. along.words.wants k (omega arith) below within unflagged;
        idles = λ k below within unflagged. along.words.idles k (omega arith) below within unflagged;
      }

  module _ (i : ℕ) (bits : List Behind) (wanting unneeded : List Bool) (along : BehindFrom (i + 1) bits wanting unneeded) (facts : ActionFacts)
      (needs : facts.precondition ≡ needed_group w (get_or l i 0)) (writes : facts.effects ≡ effects_of w (get_or l i 0)) where
    here : drop i l ≡ get_or l i 0 ∷ drop (i + 1) l
    here = drop_next l i (omega (arith, along.reached))

    -- both words of the step there
    wanted_told_here : packed wanting (written_in w facts.effects) ≡ step_bits w l flags i
    unfolding step_bits
    wanted_told_here = rw (writes, effects_written w (get_or l i 0), along.wants)

    useless_told_here : packed unneeded (written_in w facts.effects) ≡ useless_bits w l i
    unfolding useless_bits
    useless_told_here = rw (writes, effects_written w (get_or l i 0), along.idles)

    module _ (up : Bool) (raised : up ≡ get_or flags i false) where
      -- and both tables before it
      table_passed : wanted_before wanting (action w (get_or l i 0)) up ≡ table_before w (drop i l) (drop i flags)
      unfolding table_before
      table_passed =
          let flag : get_or (drop i flags) 0 false ≡ up = rw add-zero at (get_or-drop i flags 0 false) ∙ sym raised in
          let later : drop 1 (drop i flags) ≡ drop (i + 1) flags = drop-drop 1 i flags in
          rw (here, flag, later, ← along.wants)

      needs_stamped : stamped unneeded (facts_in w facts.precondition) false ≡ unneeded_behind w (drop i l)
      unfolding unneeded_behind
      needs_stamped = rw (needs, needed_facts w (get_or l i 0), here, ← along.idles)

      module _ (wanting' unneeded' : List Bool) (passes : wanting' ≡ passed_back wanting (facts_in w facts.precondition) (written_in w facts.effects) up)
          (stamps : unneeded' ≡ stamped unneeded (facts_in w facts.precondition) false) where
        passed : wanting' ≡ wanted_before wanting (action w (get_or l i 0)) up
        passed = passes ∙ passed_action w wanting (get_or l i 0) facts up needs writes

        with_bits : (bits' : List Behind) → BitsFrom i bits' → BehindFrom i bits' wanting' unneeded'
        with_bits bits' told =
            record {
              reached = omega (arith, along.reached);
              wanting_room = rw (passed, before_length) along.wanting_room;
              unneeded_room = rw (stamps, stamped_length) along.unneeded_room;
              words = told;
              wants = passed ∙ table_passed;
              idles = stamps ∙ needs_stamped;
            }

        -- one step further to the front, whose words are noted
        pub behind_noted : i < most_steps → (b : Behind) → b.wanted ≡ packed wanting (written_in w facts.effects)
            → b.useless ≡ packed unneeded (written_in w facts.effects) → BehindFrom i (set bits i b) wanting' unneeded'
        behind_noted inside b wanted useless =
            with_bits (set bits i b) (bits_noted i bits along.words inside b (wanted ∙ wanted_told_here) (useless ∙ useless_told_here))

        -- or not, where it is flagged or past the limit
        pub behind_passed : (i < most_steps → get_or flags i false ≡ false → ⊥) → BehindFrom i bits wanting' unneeded'
        behind_passed barred = with_bits bits (bits_passed i bits along.words barred)
