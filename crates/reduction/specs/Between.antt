-- What stands between the code and the definitions to be believed: laws and theorems tie the two together. Order: which
-- of two lists is the lower. Wanted: the facts that are wanted behind a step. Landmarks: the marked steps, computed.
-- Elimination: the two eliminations, computed. Found: the minimal reduction, computed. Search: the two turns that find
-- it. Sound: when what the search is told is sound. Cuts: what it is told. Course: where it stands without states.
pub mod Order
pub mod Wanted
pub mod Landmarks
pub mod Elimination
pub mod Found
pub mod Search
pub mod Sound
pub mod Cuts
pub mod Course
