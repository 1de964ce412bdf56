pub mod Along
pub mod Claiming
pub mod Reached
pub mod Spans
pub mod Batches
pub mod Told
