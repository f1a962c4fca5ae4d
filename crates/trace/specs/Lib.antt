-- Nothing here is to be believed: what this crate promises is between the code and the definitions of other crates.
-- between: what functions hand to each other, which need not be believed.
pub mod Between
