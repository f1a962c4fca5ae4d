-- RowLaws: words in lines, line by line, and parts of words.
pub mod RowLaws
