pub mod Status
pub mod Programs
pub mod CopyRefusals
