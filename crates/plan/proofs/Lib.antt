-- FaultLaws: where a plan fails to be valid, by cases, along a list, and against SAS+.
pub mod FaultLaws
-- PlanWalkLaws: what a walk along a plan hands back, by the cases of its loop.
pub mod PlanWalkLaws
-- PlanLaws: what the checks of a list answer, part by part, and what holds of one that can be read.
pub mod PlanLaws
-- CheckedLaws: what the check of a list answers on each of its ways.
pub mod CheckedLaws
-- PlanTheorem: it answers valid just where the list is a plan by the rules of SAS+, and otherwise gives the first failing place.
pub mod PlanTheorem
