-- SoFarLaws: a reduction told by its tally and its choices, with one step more, and which of two is lower.
pub mod SoFarLaws
-- TurnsLaws: what each way through the two turns makes of the reduction so far and the best.
pub mod TurnsLaws
