pub mod Deeds
pub mod Order
pub mod Detecting
pub mod Laws
pub mod Example
pub mod Rows
