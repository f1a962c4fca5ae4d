-- PlaceLaws: how a search for the first place goes on, one law for each case of its loop. CheckLaws: what a list of checks answers. PassedOnLaws: what `?` passes on.
pub mod PassedOnLaws
pub mod PlaceLaws
pub mod CheckLaws
