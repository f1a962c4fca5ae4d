-- Rows: words in lines.
pub mod Rows
