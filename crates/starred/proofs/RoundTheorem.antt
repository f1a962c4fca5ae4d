-- The rounds of the worked list 3: by computing which positions are flagged after each round, and the theorems that tie flags to rounds. Assumes nothing.
use Prim.Native.Nat.{ℕ, suc, ◌≤◌}
use native.Mathlib.Omega.{arith}
use mathlib.Core.Path.{◌≡◌, refl, sym, ◌∙◌}
use mathlib.Core.Logic.{⊎_elim}
use mathlib.Core.Bool.{false, true≢false}
use lib.ListN.{get_or}
use lib.Dec.{ltb}
use borrow.Author.Tests.{ltb-true, ltb-false}
use Rattle.sas.specs.Plan.{written, needed, unconditional, written_always}
use Rattle.reduction.specs.Reduction.{Reduction, keeps}
use Rattle.reduction.specs.Landmark.{values_from, framed}
use Rattle.reduction.specs.Between.Wanted.{same_fact, has}
use Rattle.sas.specs.Conflict.{some_of}
use Rattle.reduction.specs.Between.Landmarks.{sets_other, passed, trace, raised, round_to, rounds}
use Rattle.reduction.proofs.marks.LinkLaws.{either}
use Rattle.reduction.proofs.marks.LandmarkTheorem.{flags, flagged_in_round, in_round_flagged}
use Rattle.sheet.specs.Decode.{table, facts, initial, goal, action, effects}
use Rattle.plan.specs.Valid.{steps}
use Rattle.starred.specs.Sheets.{sheet_p}
use Rattle.starred.specs.Rounds.{list_3, OfRound, FirstRound, RoundsOfList3}

-- the flags of all positions of list 3 after r rounds
abbrev after : ℕ → Reduction
after r = flags (initial sheet_p) (goal sheet_p) (steps sheet_p list_3) r

-- a step that is flagged after a round, and not before it, has that round as its first
first_round : (r k : ℕ) → keeps (after (suc r)) k → get_or (after r) k false ≡ false → FirstRound (suc r) k
first_round r k up down = (flagged_in_round (initial sheet_p) (goal sheet_p) (steps sheet_p list_3) (suc r) k up, no_sooner)
  where
    no_sooner : (a : ℕ) → OfRound a k → suc r ≤ a
    no_sooner a of =
        ⊎_elim
        (λ less.
        let few : a ≤ r = omega (arith, ltb-true a (suc r) less) in
        absurd (true≢false (sym (in_round_flagged (initial sheet_p) (goal sheet_p) (steps sheet_p list_3) r few of) ∙ down)))
        (λ more. ltb-false a (suc r) more)
        (either (ltb a (suc r)))

pub rounds_of_list_3 : RoundsOfList3
unfolding table facts initial goal effects action written needed some_of same_fact has values_from framed unconditional written_always sets_other passed trace raised round_to rounds
rounds_of_list_3 = (first_round 0 2 refl refl, first_round 1 1 refl refl, first_round 2 3 refl refl)
