-- What stands between the code and the definitions to be believed: laws tie the two together.
-- Tallied: the tallies so far as they are counted, the words of a row, and what is written of a list that can be read.
pub mod Tallied
