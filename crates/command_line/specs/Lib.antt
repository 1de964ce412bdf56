pub mod Arguments
pub mod Commands
pub mod Lines
pub mod Unread
pub mod Values
pub mod Asked
