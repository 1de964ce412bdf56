pub mod Jobs
pub mod Limits
pub mod Names
pub mod Misfits
pub mod Reports
pub mod Recorded
pub mod ChoiceFiles
pub mod Outcomes
