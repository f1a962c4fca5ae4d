-- What stands between the code and the definitions to be believed: laws and theorems tie the two together. Told:
-- reductions by their tally and their choices, and what the turns make of them. Unpacked: the flags of choices.
pub mod Told
pub mod Unpacked
