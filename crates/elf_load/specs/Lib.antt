pub mod Fault
pub mod Refusals
pub mod Image
