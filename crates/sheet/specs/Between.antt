-- What stands between the code and the definitions to be believed: laws and theorems tie the two together.
-- Encode: how a task is written as a sheet, and which tasks can be. Group: a sheet's groups of facts, as the code goes
-- through them. Effects: those of an action.
pub mod Effects
pub mod Encode
pub mod Group
