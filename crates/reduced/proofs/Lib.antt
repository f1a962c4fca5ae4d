-- HeldLaws: the flags of a plan of which nothing is struck, and flags that hold a reduction.
pub mod HeldLaws
-- TalliedLaws: the tally of a reduction, step by step and plainly.
pub mod TalliedLaws
-- LessLaws: the lower of two tallies, in numbers, and flags past the end of a plan.
pub mod LessLaws
-- LodgedLaws: what holds of a list that passes the checks of a service.
pub mod LodgedLaws
-- AnswerLaws: what is told and written of a reduction, and what a service answers with it.
pub mod AnswerLaws
-- ThroughLaws: flags that are kept by a first reduction and then by a second one, step by step.
pub mod ThroughLaws
