-- Long: the refusal of a plan that is too long to be read. Opening: what a program finds of its input. Reply: what it
-- answers to it. Printed: what it prints of a tally and of a refusal, and what it has read and printed.
pub mod Long
pub mod Opening
pub mod Reply
pub mod Printed
-- between: what functions hand to each other, which need not be believed.
pub mod Between
