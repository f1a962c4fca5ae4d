-- What stands between the code and the definitions to be believed: laws and theorems tie the two together.
-- Datum: what a line that is due holds, as data. Filled: lines that are what they must be, by their data.
pub mod Datum
pub mod Filled
