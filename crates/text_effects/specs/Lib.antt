-- between: what functions hand to each other, which need not be believed.
pub mod Between
