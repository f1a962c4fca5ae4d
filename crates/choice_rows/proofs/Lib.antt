-- StampRowLaws: a row that is filled along facts.
pub mod StampRowLaws
-- RowWriteLaws: what a row asks for and writes.
pub mod RowWriteLaws
-- ChoiceLaws: which choices a step changes.
pub mod ChoiceLaws
-- ChoiceMemoryLaws: the memory for choices, and the list that it holds.
pub mod ChoiceMemoryLaws
-- ChoosingLaws: the walk along a plan that notes its choices.
pub mod ChoosingLaws
-- RowTheorem: what the rows of an unflagged step tell and write.
pub mod RowTheorem
