-- What stands between the code and the definitions to be believed: laws and theorems tie the two together.
-- Walk: the rest of the current list. Trial: one trial from the state before its step. Current: the current list as
-- flags.
pub mod Walk
pub mod Trial
pub mod Current
