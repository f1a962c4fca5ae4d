-- PrintedTheorem: what is printed of a valid list is a licence, and it is what is printed for the whole input.
pub mod PrintedTheorem
