-- Found: what is found in the forms that programs read, over lent words.
pub mod Found
