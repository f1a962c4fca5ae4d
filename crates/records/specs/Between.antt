-- What stands between the code and the definitions to be believed: laws and theorems tie the two together.
-- Needed: how many bytes must be read.
pub mod Needed
