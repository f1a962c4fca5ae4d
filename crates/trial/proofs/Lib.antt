-- BalanceLaws: what is struck goes over from the list to the tally, and which trial leaves the lower list.
pub mod BalanceLaws
-- TrialWalkLaws: the walk along the rest of the current list, turn by turn.
pub mod TrialWalkLaws
-- TriedLaws: what a trial leaves, from what its walk leaves.
pub mod TriedLaws
-- CurrentLaws: a trial on the flags that the code holds is a trial of the definitions.
pub mod CurrentLaws
