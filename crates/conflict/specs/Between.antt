-- What stands between the code and the definitions to be believed: laws and theorems tie the two together.
-- Table: what facts say of each variable. Clash: an action's effects, each against those behind it. Found: the place of
-- cause 16, told of a sheet that meets none of the causes before it.
pub mod Table
pub mod Clash
pub mod Found
