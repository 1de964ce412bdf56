pub mod Words
pub mod Pieces
pub mod StateTexts
pub mod Tids
pub mod Each
