pub mod Asking
pub mod Ends
pub mod Refused
