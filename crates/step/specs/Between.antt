-- What stands between the code and the definitions to be believed: laws and theorems tie the two together.
-- Failing: what the test of an assignment answers. Advance: one action in a lent state. Tries: one step of an accepted
-- sheet.
pub mod Failing
pub mod Advance
pub mod Tries
