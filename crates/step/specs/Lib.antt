-- State: a state in an array. Step: what one step answers, and the state after it.
pub mod State
pub mod Step
-- between: what functions hand to each other, which need not be believed.
pub mod Between
