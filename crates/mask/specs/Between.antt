-- What stands between the code and the definitions to be believed: laws and theorems tie the two together.
-- Places: the ones of a mask's words, and a plan's words at them.
pub mod Places
