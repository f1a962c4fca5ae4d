-- Strikes: what each service that strikes writes over words that programs in other languages lend. Statement: demand 3
-- of the minimal reduction over such words, and what the licence says over them.
pub mod Strikes
pub mod Statement
