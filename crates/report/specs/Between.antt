-- What stands between the code and the definitions to be believed: laws and theorems tie the two together.
-- Reported: a reduction as a service tells it.
pub mod Reported
