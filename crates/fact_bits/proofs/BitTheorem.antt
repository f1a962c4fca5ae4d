-- The test of a step's words in a state is that of the cuts: at each known fact the tables behind the step tell whether it is wanted and whether it is needed,
-- and each fact that a plain action may write has a bit, since there are no more of them than variables. Of any action it holds that what its words have as of
-- no use is so. Assumes nothing.
use Prim.Native.Nat.{ℕ, ◌+◌, ◌-◌, ◌^◌, ◌≤◌, ◌<◌}
use native.Mathlib.Omega.{arith}
use mathlib.Core.Path.{◌≡◌, refl, ◌∙◌, ap}
use mathlib.Core.Bool.{Bool, true, false, cond, not, ◌||◌, or-false}
use mathlib.Core.List.Memᴰ
use mathlib.Core.List.{List, [], ◌∷◌}
use lib.ListN.{length, get_or, drop, replicate, length-replicate, get_or-replicate}
use Rattle.sas.specs.Task.{Fact, Action}
use Rattle.sas.specs.Plan.{written, needed, may_write}
use Rattle.sas.specs.Between.WellFormed.{Known, ActionFormed, Plain}
use Rattle.sas.proofs.ActionLaws.{needed_known}
use Rattle.sas.proofs.WellFormedLaws.{ActionsFormed, rising_few}
use Rattle.reduction.specs.Reduction.{Reduction}
use Rattle.reduction.specs.Landmark.{step}
use Rattle.reduction.specs.Between.Wanted.{has, wanted}
use Rattle.reduction.specs.Between.Search.{Visit}
use Rattle.reduction.specs.Between.Cuts.{wanted_held, needed_in, useful}
use Rattle.mask.specs.Mask.{word_bits}
use Rattle.sheet.specs.Decode.{domains, goal, action}
use Rattle.sheet.specs.Between.Encode.{fact_word}
use Rattle.sheet.specs.Causes.{Accepted}
use Rattle.sheet.proofs.Parts.{accepted_measured}
use Rattle.sheet.proofs.Accepted.{domains_length}
use Rattle.plan.specs.Limits.{most_steps}
use Rattle.plan.specs.Readable.{Readable}
use Rattle.plan.specs.Valid.{steps}
use Rattle.plan.proofs.FaultLaws.{steps_drop, drop_next}
use Rattle.plan.proofs.PlanLaws.{steps_at, rest_formed}
use Rattle.fact_table.specs.Between.Tables.{most_facts, has_fact}
use Rattle.fact_table.proofs.StampLaws.{stamped_length}
use Rattle.fact_table.proofs.WantsLaws.{fits, before_length, wants_next, goal_known, goal_length, goal_wants, stamped_known}
use Rattle.fact_bits.specs.declared.bits.Behind.{Behind}
use Rattle.fact_bits.specs.Between.Bits.{packed, table_before, unneeded_behind, step_bits, useless_bits, no_bits, ToldBehind, bits_hold, idle_or_held}
use Rattle.fact_bits.proofs.HoldLaws.{bits_tell, idle_sound, others_tell}

-- what a stamp leaves at a fact that a table has where a test fails it
one_stamp : (x test had : Bool) → had ≡ not test → cond x false had ≡ not (x || test)
one_stamp true test had e = refl
one_stamp false test had e = e

module _ (w : List ℕ) (accepted : Accepted w) where
  table_before_length : (l : List ℕ) (flags : Reduction) → length (table_before w l flags) ≡ most_facts
  unfolding table_before
  table_before_length [] flags = goal_length w
  table_before_length (a ∷ l) flags = before_length _ (action w a) (get_or flags 0 false) ∙ table_before_length l (drop 1 flags)

  unneeded_length : (l : List ℕ) → length (unneeded_behind w l) ≡ most_facts
  unfolding unneeded_behind
  unneeded_length [] = stamped_length (replicate most_facts true) (goal w) false ∙ length-replicate {A = Bool} most_facts true
  unneeded_length (a ∷ l) = stamped_length (unneeded_behind w l) (needed (action w a)) false ∙ unneeded_length l

  -- the table tells at each known fact whether it passes a test
  abbrev TellsKnown : List Bool → (Fact → Bool) → Type 0
  TellsKnown t test = (f : Fact) → Known (domains w) f → has_fact t (fact_word f) ≡ test f

  -- the one before the steps l tells the facts that are wanted there
  wanted_tells : (l : List ℕ) (flags : Reduction) → ActionsFormed (domains w) (steps w l)
      → TellsKnown (table_before w l flags) (wanted (goal w) (steps w l) flags)
  unfolding table_before wanted
  wanted_tells [] flags formed = goal_wants w accepted
  wanted_tells (a ∷ l) flags formed =
      wants_next w accepted (action w a) (steps w l) (drop 1 flags) _ (get_or flags 0 false) (table_before_length l (drop 1 flags))
      (formed (action w a) (Memᴰ.head refl)) (wanted_tells l (drop 1 flags) (λ b m. formed b (Memᴰ.tail m)))

  -- and the other those that no step of l and not the goal needs
  unneeded_tells : (l : List ℕ) → ActionsFormed (domains w) (steps w l) → TellsKnown (unneeded_behind w l) (λ f. not (needed_in (goal w) (steps w l) f))
  unfolding unneeded_behind needed_in has_fact
  unneeded_tells [] formed f known =
      rw (
        stamped_known w accepted (replicate most_facts true) (goal w) false f (length-replicate {A = Bool} most_facts true) (goal_known w accepted) known,
        get_or-replicate most_facts (fact_word f) true false (fits w accepted f known).1,
      )
      (one_stamp (has (goal w) f) false true refl ∙ ap not (or-false (has (goal w) f)))
  unneeded_tells (a ∷ l) formed f known =
      let this : ActionFormed (domains w) (action w a) = formed (action w a) (Memᴰ.head refl) in
      rw (stamped_known w accepted (unneeded_behind w l) (needed (action w a)) false f (unneeded_length l) (λ g n. needed_known (action w a) this n) known)
      (one_stamp (has (needed (action w a)) f) (needed_in (goal w) (steps w l) f) (get_or (unneeded_behind w l) (fact_word f) false)
      (unneeded_tells l (λ b m. formed b (Memᴰ.tail m)) f known))

  -- each fact that a plain action may write has a bit
  few_written : (a : Action) → Plain (domains w) a → length (written a) ≤ word_bits
  few_written a plain = omega (arith, rising_few plain.rising, domains_length w, (accepted_measured w accepted).variables)

module _ (w l : List ℕ) (flags : Reduction) (bits : List Behind) (readable : Readable w l)
    (told : ToldBehind w l flags bits) (v : Visit) (inside : v.index < length l) (unflagged : get_or flags v.index false ≡ false) where
  -- the action at the visit
  abbrev here : Action
  here = action w (get_or l v.index 0)

  within : v.index < most_steps
  within = omega (arith, readable.few)

  formed_from : (i : ℕ) → ActionsFormed (domains w) (steps w (drop i l))
  formed_from i = rest_formed w l readable.accepted readable.known i

  here_formed : ActionFormed (domains w) here
  here_formed = formed_from v.index here (rw (drop_next l v.index inside) (Memᴰ.head refl))

  -- at each fact that the step may write the tables tell
  behind : (t : List Bool) (test : Fact → Bool) → TellsKnown w readable.accepted t test → (f : Fact) → may_write here f → has_fact t (fact_word f) ≡ test f
  behind t test tells f m = tells f (here_formed.known f m)

  -- what the words have as of no use is so: where each fact that the step may write has its bit or holds, the step is of none
  pub useless_sound : idle_or_held v.state ((get_or bits v.index no_bits).useless) (written (step (steps w l) v.index)) ≡ true
      → useful (goal w) (steps w l) v ≡ false
  unfolding useful useless_bits packed
  useless_sound h =
      rw (steps_at w l v.index inside, ← steps_drop w l (v.index + 1))
      (idle_sound v.state _ (needed_in (goal w) (steps w (drop (v.index + 1) l))) word_bits (written here)
      (behind _ _ (unneeded_tells w readable.accepted (drop (v.index + 1) l) (formed_from (v.index + 1))))
      (rw (told.idles v.index inside within unflagged, steps_at w l v.index inside) at h))

  module _ (plain : Plain (domains w) here) where
    few : length (written here) ≤ word_bits
    few = few_written w readable.accepted here plain

    -- the wanted facts that a plain step may write hold in the visit's state just where the cut of striking says so
    pub wanted_told : bits_hold v.state ((get_or bits v.index no_bits).wanted) (written (step (steps w l) v.index)) ≡ wanted_held (goal w) (steps w l) flags v
    unfolding wanted_held step_bits packed
    wanted_told =
        rw (told.wants v.index inside within unflagged, steps_at w l v.index inside, ← steps_drop w l (v.index + 1))
        (bits_tell v.state _ _ word_bits (written here) few
        (behind _ _ (wanted_tells w readable.accepted (drop (v.index + 1) l) (drop (v.index + 1) flags) (formed_from (v.index + 1)))))

    -- and the needed ones, whose bits are those left of all, just where the step is of no use
    pub useful_told : bits_hold v.state (2 ^ word_bits - 1 - (get_or bits v.index no_bits).useless) (written (step (steps w l) v.index))
        ≡ not (useful (goal w) (steps w l) v)
    unfolding useful useless_bits packed
    useful_told =
        rw (told.idles v.index inside within unflagged, steps_at w l v.index inside, ← steps_drop w l (v.index + 1))
        (others_tell v.state _ (needed_in (goal w) (steps w (drop (v.index + 1) l))) word_bits (written here) few
        (behind _ _ (unneeded_tells w readable.accepted (drop (v.index + 1) l) (formed_from (v.index + 1)))))
