-- Document 01's ways of striking steps from a plan, over SAS+. Reduction: what is struck, what is left, and when that
-- is valid. Landmark: the marked steps, which every valid reduction keeps. OlderRule: document 01's rule for them.
-- Trials: trials, elimination and greedy elimination. Minimal: the minimal reduction (01: exact reduction).
pub mod Reduction
pub mod Landmark
pub mod OlderRule
pub mod Trials
pub mod Minimal
-- between: what functions hand to each other, which need not be believed.
pub mod Between
