-- Licensed: what is printed for a sheet and a list by the licence.
pub mod Licensed
-- between: what functions hand to each other, which need not be believed.
pub mod Between
