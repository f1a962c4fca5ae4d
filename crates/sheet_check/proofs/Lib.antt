-- CountLaws: where the counts are not bad, there are no more variables than the limit.
pub mod CountLaws
-- PastLaws: whether an effect runs past its part, by the cases of a loop along the effects, and an action's part of a wrong length.
pub mod PastLaws
-- BadFactLaws: the place of cause 6, by where the first bad fact stands.
pub mod BadFactLaws
-- FoundLaws: what `find` gives over a range of numbers.
pub mod FoundLaws
