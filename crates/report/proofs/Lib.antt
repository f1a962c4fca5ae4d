-- ReportLaws: the lines of a report, put one by one.
pub mod ReportLaws
-- ToldLaws: what a service tells of a list that it answers is what is reported.
pub mod ToldLaws
-- ShortenedLaws: what the minimal reduction tells of a list is what is printed for it.
pub mod ShortenedLaws
