-- What stands between the code and the definitions to be believed: laws and theorems tie the two together.
-- Held: a reduction as flags. Tallied: its tally as it is counted. Kept: what is told and written of it.
pub mod Held
pub mod Tallied
pub mod Kept
