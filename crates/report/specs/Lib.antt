-- Report: the lines that are printed of a list that is shortened. Shortened: what is printed for a sheet and a list by
-- the minimal reduction.
pub mod Report
pub mod Shortened
-- between: what functions hand to each other, which need not be believed.
pub mod Between
