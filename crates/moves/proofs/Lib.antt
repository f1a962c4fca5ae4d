-- CountLaws: the tallies so far, step by step.
pub mod CountLaws
-- RowLaws: the words of a row, the rows so far, and what the service answers.
pub mod RowLaws
-- MovesTheorem: a mask tells the reduction that it is made of, and what is left and what is saved make what was lodged.
pub mod MovesTheorem
