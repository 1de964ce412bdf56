pub mod Deeds
pub mod Acts
pub mod Laws
pub mod Rows
