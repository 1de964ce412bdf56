pub mod FileParts
pub mod PageBytes
pub mod RunLaws
pub mod RunRules
pub mod ThreadEntries
