-- What stands between the code and the definitions to be believed: laws and theorems tie the two together.
-- Reading: what the rest of a text means to a reader that stands within it.
pub mod Reading
