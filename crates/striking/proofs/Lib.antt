-- StrikeLaws: what a service that strikes has stored into lent words.
pub mod StrikeLaws
