pub mod Turns
pub mod Records
