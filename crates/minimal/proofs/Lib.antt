-- MinimalLaws: what the service answers on each of its ways.
pub mod MinimalLaws
-- ComputedTheorem: what it answers is what is computed.
pub mod ComputedTheorem
-- DemandThree: what it answers meets demand 3.
pub mod DemandThree
