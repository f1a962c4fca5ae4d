-- GoingLaws: how a line takes a reader on.
pub mod GoingLaws
-- ReadsLaws: lines read in turn.
pub mod ReadsLaws
-- StopLaws: a reader that stops before a line that is not what it must be.
pub mod StopLaws
-- KeywordLaws: keywords and names.
pub mod KeywordLaws
