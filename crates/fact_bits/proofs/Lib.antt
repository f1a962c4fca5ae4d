-- BitPackLaws: the bits of a group of facts, by the cases of a loop along it.
pub mod BitPackLaws
-- BitWalkLaws: the walk along a plan from its last step that packs the bits of each step.
pub mod BitWalkLaws
-- HoldLaws: when the facts whose bits are one hold.
pub mod HoldLaws
-- BitTheorem: the test of a step's words in a state is that of the cuts.
pub mod BitTheorem
