-- What stands between the code and the definitions to be believed: laws tie the two together.
-- Rows: lines of numbers, as the functions that read them tell them.
pub mod Rows
