pub mod Ecalls
pub mod Lift
pub mod ThreadParts
pub mod CallParts
pub mod CloneParts
pub mod Inquiries
pub mod Places
pub mod Openings
