-- What stands between the code and the definitions to be believed. Follows: what the walk along a list writes.
pub mod Follows
