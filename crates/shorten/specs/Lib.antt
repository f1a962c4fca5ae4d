-- Shorten: what the program prints for the bytes of its input.
pub mod Shorten
-- Statement: demand 3 of what is printed, as one statement.
pub mod Statement
