pub mod Seen
pub mod Stream
pub mod Written
pub mod LastBytes
