-- What stands between the code and the definitions to be believed: laws and theorems tie the two together.
-- WellFormed: facts that a task knows.
pub mod WellFormed
