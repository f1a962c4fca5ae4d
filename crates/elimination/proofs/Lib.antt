-- EliminateLaws: elimination along the flags that the code holds.
pub mod EliminateLaws
-- BetterLaws: the better of the best so far and a trial.
pub mod BetterLaws
-- PickLaws: the best of a round, position by position.
pub mod PickLaws
-- GreedyLaws: greedy elimination, round by round.
pub mod GreedyLaws
-- LeavesLaws: what each elimination leaves of a valid list.
pub mod LeavesLaws
