-- Trials and the two eliminations.
-- TrialLaws: what a walk and a successful trial leave, and that a trial walks along the rest from the state before its step.
pub mod TrialLaws
-- PartWalk: a walk in the first values of a state is the walk in the state.
pub mod PartWalk
-- GreedyChoice: what a round of greedy elimination takes.
pub mod GreedyChoice
-- StruckLaws: what is struck of a reduction and what is left of it are together the reduction.
pub mod StruckLaws
-- TrialTheorem: trials, and what a round of greedy elimination takes, in document 01's words.
pub mod TrialTheorem
-- EliminationTheorem: what the eliminations leave is valid, and no trial succeeds on what greedy elimination leaves.
pub mod EliminationTheorem
