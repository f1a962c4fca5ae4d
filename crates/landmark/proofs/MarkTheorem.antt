-- The marks of a list are those of document 02's rule (C-12): `flagged_just_marked` says that the rule marks just the steps that are flagged, and each step
-- has a flag, which is its bit in the mask that the service tells; those of document 01's own rule are among them. Nothing here is about the code: its contract
-- cites the same definitions. Assumes nothing.
use Prim.Native.Nat.{ℕ, ◌≤◌}
use native.Mathlib.Omega.{arith}
use mathlib.Core.Path.{◌≡◌, sym, ◌∙◌}
use mathlib.Core.Logic.{◌↔◌}
use mathlib.Core.Bool.{true, false}
use mathlib.Core.Option.{none}
use mathlib.Core.List.{List, []}
use lib.ListN.{length, get_or, length-map}
use Rattle.refusal.specs.Refusal.{Verdict}
use Rattle.refusal.specs.Refusal.{told}
use Rattle.refusal.specs.Check.{answer}
use Rattle.sas.specs.Plan.{holds}
use Rattle.sas.proofs.WellFormedLaws.{ActionsFormed}
use Rattle.reduction.specs.Reduction.{keeps}
use Rattle.reduction.specs.Landmark.{Landmark}
use Rattle.reduction.specs.OlderRule.{OlderMarked}
use Rattle.reduction.proofs.marks.LandmarkTheorem.{landmarks_length, flagged_just_marked}
use Rattle.reduction.proofs.marks.OlderTheorem.{older_still_marked}
use Rattle.sheet.specs.Decode.{domains, initial, goal, action, task}
use Rattle.sheet.proofs.Accepted.{accepted_well_formed}
use Rattle.mask.specs.Mask.{mask_bits, bit_up}
use Rattle.mask.proofs.MaskTheorem.{up_is_flag}
use Rattle.plan.specs.Valid.{steps}
use Rattle.plan.specs.Checked.{plan_checks}
use Rattle.plan.specs.Readable.{Readable}
use Rattle.plan.proofs.PlanLaws.{steps_formed, passed_readable}
use Rattle.landmark.specs.Marks.{marks, Masks}

-- step i of document 01 stands at index i − 1
pub marks_theorem : (w l : List ℕ) (i : ℕ) → keeps (marks w l) i ↔ Landmark (initial w) (goal w) (steps w l) i
unfolding marks
marks_theorem w l i = flagged_just_marked (initial w) (goal w) (steps w l) i

-- one for each step
pub marks_length : (w l : List ℕ) → length (marks w l) ≡ length l
unfolding marks
marks_length w l = landmarks_length (initial w) (goal w) (steps w l) ∙ length-map l (action w)

-- every step of a list that can be read which document 01's own rule marks is flagged
pub older_marks_stay : (w l : List ℕ) → Readable w l → (i : ℕ) → OlderMarked (holds (initial w)) (goal w) (steps w l) i → keeps (marks w l) i
unfolding task
older_marks_stay w l readable i marked =
    let formed : ActionsFormed (domains w) (steps w l) = steps_formed w l readable.accepted readable.known in
    let sized : length (initial w) ≡ length (domains w) = (accepted_well_formed w readable.accepted).initial.complete in
    (marks_theorem w l i).1 (older_still_marked (initial w) (goal w) (steps w l) formed sized marked)

-- "Marks are returned as such a mask, one for marked": bit i of the mask told is one just where step i + 1 is marked
pub bits_just_marked : (w l : List ℕ) (verdict : Verdict) (mask : List ℕ) → Masks w l verdict mask → told verdict ≡ none
    → (i : ℕ) → bit_up mask i ≡ true ↔ Landmark (initial w) (goal w) (steps w l) i
bits_just_marked w l verdict mask masks passes i =
    let passed : answer (plan_checks w l) ≡ none = sym masks.refusal ∙ passes in
    let few : length (marks w l) ≤ mask_bits = omega (arith, marks_length w l, (passed_readable _ [] w l passed).few) in
    let flag : bit_up mask i ≡ get_or (marks w l) i false = rw (rw passed at masks.told_by) (up_is_flag (marks w l) few i) in
    rw flag (marks_theorem w l i)
