pub mod Sources
pub mod Marks
