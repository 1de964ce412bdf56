pub mod Follows
pub mod Answered
pub mod Asking
pub mod Slices
pub mod Following
pub mod Turns
pub mod Chosen
pub mod LastThread
