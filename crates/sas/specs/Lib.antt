-- Planning in SAS+ with conditional effects, in the words of source document 001, "Preliminaries".
-- Task: variables, facts, effects, actions, tasks. Plan: what actions do, and what a plan is. Conflict: effects that
-- would give one variable two values at once.
pub mod Task
pub mod Plan
pub mod Conflict
-- between: what functions hand to each other, which need not be believed.
pub mod Between
