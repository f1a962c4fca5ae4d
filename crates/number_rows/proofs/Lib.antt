-- RowLaws: a line of numbers as the code reads it.
pub mod RowLaws
-- FactRowLaws: facts as the code reads them.
pub mod FactRowLaws
