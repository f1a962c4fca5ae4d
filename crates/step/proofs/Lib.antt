-- FailingLaws: the facts of a group in a state, from the last, by the cases of a loop along it.
pub mod FailingLaws
-- AdvanceLaws: when an action is done in a lent state, and when the goal holds there.
pub mod AdvanceLaws
-- StateLaws: the starting values, one by one, and a state in an array.
pub mod StateLaws
-- StepLaws: what a step answers on each of its ways.
pub mod StepLaws
-- StepTheorem: the state after one step, in document 01's words.
pub mod StepTheorem
