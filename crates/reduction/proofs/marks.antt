-- Document 02's marks.
-- FrameLaws: the positions of a list with its start step and its end step.
pub mod FrameLaws
-- LinkLaws: the trace of a fact tells the links of the rule for marks.
pub mod LinkLaws
-- RoundLaws: a round of marks raises just what the rule links, and as many rounds as steps are enough.
pub mod RoundLaws
-- LandmarkTheorem: the steps flagged are the landmarks, and as many rounds as there are steps reach them.
pub mod LandmarkTheorem
-- LandmarksKept: every valid reduction keeps every marked step, and where all are marked it is the whole.
pub mod LandmarksKept
-- OlderTheorem: every step that document 01's rule marks is still marked.
pub mod OlderTheorem
