-- TraceLaws: the tables of a walk, by the cases of the code.
pub mod TraceLaws
-- TraceTheorem: the tables of a walk tell the trace of each fact.
pub mod TraceTheorem
-- StartTheorem: the tables as a pass begins.
pub mod StartTheorem
