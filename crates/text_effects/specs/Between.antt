-- What stands between the code and the definitions to be believed: laws tie the two together.
-- Runs: numbers of a line that are read one after the other.
pub mod Runs
