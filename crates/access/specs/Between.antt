-- What stands between the code and the definitions to be believed: laws tie the two together.
-- Places: where a word has ones, and the words at places.
pub mod Places
