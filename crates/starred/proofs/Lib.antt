-- RowLaws: proofs of one row after the other, and the positions of the steps that a reduction keeps.
pub mod RowLaws
-- RefusalTheorem: each cause of refusal is met, at its number and place.
pub mod RefusalTheorem
-- Starred: what document 01 says of each worked list that carries a star.
pub mod Starred
-- DemandMet: the premises of demand 3 hold of sheet P and worked list 1.
pub mod DemandMet
-- SheetP: sheet P and its task, computed.
pub mod SheetP
-- RoundTheorem: the rounds of the worked list 3.
pub mod RoundTheorem
-- LicenceRows: a list of each claim.
pub mod LicenceRows
-- ConditionRows: sheets of edition 2: what they mean, and what the checks of their effects answer.
pub mod ConditionRows
