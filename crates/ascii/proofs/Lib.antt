-- SplitLaws: where bytes are cut, by the next byte and by the first run.
pub mod SplitLaws
