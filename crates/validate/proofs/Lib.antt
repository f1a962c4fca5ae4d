-- ValidateLaws: what the check of a list tells is what is printed for it.
pub mod ValidateLaws
