-- What stands between the code and the definitions to be believed: laws and theorems tie the two together.
-- Tables: what tables with an entry for each fact hold.
pub mod Tables
