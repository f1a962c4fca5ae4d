-- What stands between the code and the definitions to be believed: laws and theorems tie the two together.
-- Traces: what a walk along a plan knows of facts.
pub mod Traces
