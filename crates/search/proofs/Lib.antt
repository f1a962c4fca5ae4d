-- UnpackLaws: the flags that choices are unpacked to are the reduction which they tell.
pub mod UnpackLaws
-- BestLaws: the tests are sound, and so the search from the starting values finds the minimal reduction.
pub mod BestLaws
