-- What stands between the code and the definitions to be believed: laws tie the two together.
-- Laid: parts of a sheet among words. Held: a group of facts as bits and slots hold it.
pub mod Laid
pub mod Held
