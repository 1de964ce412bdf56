pub mod Headers
pub mod Notes
pub mod Runs
pub mod Core
