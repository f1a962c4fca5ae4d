-- ChosenLaws: the choices before an index, by whether the step there is flagged.
pub mod ChosenLaws
-- PackedLaws: a row tested in a state and written over it.
pub mod PackedLaws
