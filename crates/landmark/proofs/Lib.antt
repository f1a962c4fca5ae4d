-- RowLaws: the rows of supports, by the cases of the code.
pub mod RowLaws
-- WalkLaws: the walk along the steps, by the cases of the code.
pub mod WalkLaws
-- CloseLaws: the walk back, by the cases of the code.
pub mod CloseLaws
-- PositionLaws: flags of positions compared, and those of the steps among them.
pub mod PositionLaws
-- WalkTheorem: the walks of a pass raise what the traces say.
pub mod WalkTheorem
-- PassLaws: what a pass along the positions of a plan raises.
pub mod PassLaws
-- PassTheorem: the passes find the landmarks.
pub mod PassTheorem
-- FlagLaws: the passes along a list, by the cases of the code.
pub mod FlagLaws
-- MarkLaws: what the function for landmarks and the services answer on each of their ways.
pub mod MarkLaws
-- MarkTheorem: the marks are those of document 02's rule.
pub mod MarkTheorem
