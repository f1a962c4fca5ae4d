-- What stands between the code and the definitions to be believed: laws tie the two together.
-- Checks: what is answered, as it is computed. Written: what is answered to the numbers of a text.
pub mod Checks
pub mod Written
