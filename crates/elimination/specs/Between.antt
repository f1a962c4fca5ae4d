-- What stands between the code and the definitions to be believed: laws and theorems tie the two together.
-- Left: what both leave as it is computed. Turn: elimination's turn at a position. Round: a round of greedy
-- elimination.
pub mod Left
pub mod Turn
pub mod Round
