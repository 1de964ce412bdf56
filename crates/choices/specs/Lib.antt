pub mod ChoiceText
pub mod Schedule
pub mod Scheduled
pub mod Recorded
pub mod Again
pub mod Sliced
