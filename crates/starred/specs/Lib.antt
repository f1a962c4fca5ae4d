-- Sheets: the words of document 01's worked sheets. Rows: what it says of each starred list, and what that means.
-- Refusals: each cause of refusal, met by words. Rounds: the rounds in which the steps of a list are marked. Licences:
-- a list of each claim. Conditions: sheets of edition 2.
pub mod Sheets
pub mod Rows
pub mod Refusals
pub mod Rounds
pub mod Licences
pub mod Conditions
