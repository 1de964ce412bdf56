pub mod Texts
pub mod Lasts
pub mod Runs
