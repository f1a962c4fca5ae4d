-- What stands between the code and the definitions to be believed: laws and theorems tie the two together.
-- Bits: a word for each step, with a bit for each fact that it may write.
pub mod Bits
