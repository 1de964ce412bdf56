pub mod Summaries
pub mod TurnTexts
pub mod LongTexts
