-- What stands between the code and the definitions to be believed: laws and theorems tie the two together. Rows: the
-- rows of each unflagged step.
pub mod Rows
