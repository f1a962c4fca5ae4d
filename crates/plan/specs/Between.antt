-- What stands between the code and the definitions to be believed: laws and theorems tie the two together. Fault: where
-- a list fails, as it is computed. Truly: what holds of its check. Walk: what the walk along a list hands back. Lodged:
-- the check of a list within a service.
pub mod Fault
pub mod Truly
pub mod Walk
pub mod Lodged
