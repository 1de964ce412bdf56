pub mod Copied
pub mod Reading
