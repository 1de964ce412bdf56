pub mod JobLists
pub mod MisfitLists
pub mod ChoiceLists
pub mod Lengths
pub mod Recorded
pub mod NameLists
pub mod Outcomes
pub mod ReportTexts
