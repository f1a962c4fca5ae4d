-- The search of the minimal reduction: its turns and its tests.
-- WantedLaws: which facts are wanted behind a step, and that those hold in every valid reduction.
pub mod WantedLaws
-- UpdateLaws: the best reduction so far, updated with one found behind some decisions.
pub mod UpdateLaws
-- TurnLaws: what each turn of the search does, by its cases.
pub mod TurnLaws
-- CutLaws: the cuts of the search are sound, and two sound cuts are one.
pub mod CutLaws
-- SearchTheorem: the search returns the minimal reduction.
pub mod SearchTheorem
-- HeldLaws: which facts hold after an action and before an index, by what was done before.
pub mod HeldLaws
-- ChangeLaws: a step that changes nothing that matters behind it is never kept, whatever its actions are.
pub mod ChangeLaws
-- UseLaws: of plain steps this is one that sets nothing of use, and all that the search is told is sound.
pub mod UseLaws
-- CourseLaws: the search stays on course, and passes flagged steps without a test.
pub mod CourseLaws
