-- between: what stands between the reading of a text line by line and the texts that are printed.
pub mod Between
