-- LicenseLaws: what the service answers on each of its ways.
pub mod LicenseLaws
-- FurtherLaws: what it answers of a list that goes further than the minimal reduction.
pub mod FurtherLaws
-- ComputedTheorem: what the service answers is what is computed.
pub mod ComputedTheorem
-- LicenceTheorem: what is claimed of a list holds, and there is just one licence; and a list whose steps are all marked has no valid striking but the whole.
pub mod LicenceTheorem
