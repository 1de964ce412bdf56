pub mod Statuses
pub mod CopyRefusals
