-- ShortenTheorem: demand 3 of what is printed, and that it is what is printed for the whole input.
pub mod ShortenTheorem
