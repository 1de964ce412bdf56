pub mod Folds
pub mod Texts
pub mod Words
mod BadValues
mod Questions
