-- What stands between the code and the definitions to be believed: laws tie the two together.
-- Sections: numbers that count lines. Outcome: what reading a whole text finds.
pub mod Sections
pub mod Outcome
