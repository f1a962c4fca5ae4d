-- ValidLaws: what a valid list does, by its first step, and that of a task's actions it is a plan.
pub mod ValidLaws
-- ReductionLaws: what a reduction leaves, reductions of reductions, and that a strike raises neither the number of steps nor the cost.
pub mod ReductionLaws
-- MemberLaws: which facts an assignment has.
pub mod MemberLaws
-- LowerLaws: the order of lists by cost, then length.
pub mod LowerLaws
-- marks: Document 02's marks.
pub mod marks
-- trials: trials and the two eliminations.
pub mod trials
-- minimal: the minimal reduction: that there is just one.
pub mod minimal
-- turns: the search of the minimal reduction: its turns and its tests.
pub mod turns
