-- `actions` meets its contract. The loop's invariant: the actions passed are put. Assumes nothing.
use Prim.Native.Nat.{◌≤◌, ◌<◌}
use native.Mathlib.Omega.{arith}
use mathlib.Core.Path.{refl, ◌∙◌}
use Rattle.sheet.specs.Layout.{actions}
use Rattle.sheet.specs.Decode.{table}
use Rattle.layout.specs.Layout.{action_section}
use Rattle.layout.proofs.WalkLaws.{goes_first, goes_both, goes_action, goes_to_last}
use Rattle.layout.proofs.sections.Walk.actions.Goals as goal

pub loop-a-init : goal.loop-a-init
loop-a-init c = let sheet = c.args.sheet.now in record { same = refl; goes = goes_first sheet (actions sheet) _ }

pub loop-a-preserved : goal.loop-a-preserved
loop-a-preserved c =
    let sheet = c.args.sheet.now in
    let low : c.loop-a.a < actions sheet = omega arith in
    let so_far = c.loop-a.invariant in
    record { same = c.action.ensures.same ∙ so_far.same; goes = goes_action sheet c.loop-a.a (actions sheet) low so_far.goes c.action.ensures.goes }

pub returns : goal.returns
returns c =
    let sheet = c.args.sheet.now in
    let past : actions sheet ≤ c.loop-a.a = omega arith in
    let all = c.loop-a.invariant in
    let first = c.section.ensures in
    record {
      same = all.same ∙ first.same;
      goes = goes_both (first.goes (table (action_section sheet) 0 (actions sheet))) (goes_to_last sheet c.loop-a.a (actions sheet) past all.goes);
    }
