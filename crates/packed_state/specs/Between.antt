-- What stands between the code and the definitions to be believed: laws and theorems tie the two together. Chosen: a
-- reduction as a word of choices. Packed: a state in bytes, and rows tested in it and written over it.
pub mod Chosen
pub mod Packed
