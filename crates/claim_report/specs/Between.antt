-- What stands between the code and the definitions to be believed: laws and theorems tie the two together.
-- LicenceRoom: how many bytes are printed.
pub mod LicenceRoom
