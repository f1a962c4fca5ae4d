-- What stands between the code and the definitions to be believed: laws and theorems tie the two together.
-- Found: what the code finds of its input. Room: how many bytes a line takes.
pub mod Found
pub mod Room
