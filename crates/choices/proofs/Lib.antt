pub mod Texts
pub mod Schedules
pub mod OwnSlices
pub mod SaidChoices
pub mod Scheduled
pub mod Again
pub mod OwnRun
mod Examples
pub mod Sliced
pub mod Asked
