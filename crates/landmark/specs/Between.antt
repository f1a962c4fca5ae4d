-- What stands between the code and the definitions to be believed: laws and theorems tie the two together.
-- Rows: the supports of what a position needs. Passes: the walks of a
-- pass. Flagged: the marks as flags, within a service.
pub mod Rows
pub mod Passes
pub mod Flagged
