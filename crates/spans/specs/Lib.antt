pub mod Spans
pub mod Keeping
pub mod Reading
