-- `flags_of_cheaper` meets its contract: each elimination leaves what its definition says, and so do their tallies. Assumes nothing.
use Rattle.elimination.proofs.LeavesLaws.{left_leaves}
use Rattle.cheaper.proofs.CheaperLaws.{cheaper_flags}
use Rattle.elimination.specs.declared.single.Elimination.TheVariants.{Plain, Greedy}
use mathlib.Core.Path.{sym, ◌∙◌}
use mathlib.Core.Bool.{true, false}
use Rattle.cheaper.proofs.both.flags_of_cheaper.Goals as goal

pub slice_bounds-tally_of-end : goal.slice_bounds-tally_of-end
slice_bounds-tally_of-end c = sym (left_leaves _ _ c.requires.readable c.requires.plan_value Plain _ c.flags_left-eliminated.ensures).fits

pub slice_bounds-tally_of-end-2 : goal.slice_bounds-tally_of-end-2
slice_bounds-tally_of-end-2 c = sym (left_leaves _ _ c.requires.readable c.requires.plan_value Greedy _ c.flags_left-greedily.ensures).fits

pub returns-then-is_lower : goal.returns-then-is_lower
returns-then-is_lower c =
    let greedily = c.flags_left-greedily.ensures in
    cheaper_flags _ _ c.requires.readable c.requires.plan_value _ _ _ _ true _ c.flags_left-eliminated.ensures greedily
    c.tally_of-of_first.ensures c.tally_of-of_second.ensures (sym c.is_lower.ensures ∙ c.if-is_lower.true) greedily

pub returns : goal.returns
returns c =
    let eliminated = c.flags_left-eliminated.ensures in
    cheaper_flags _ _ c.requires.readable c.requires.plan_value _ _ _ _ false _ eliminated c.flags_left-greedily.ensures
    c.tally_of-of_first.ensures c.tally_of-of_second.ensures (sym c.is_lower.ensures ∙ c.if-is_lower.false) eliminated
