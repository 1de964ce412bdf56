pub mod Directory
pub mod Table
pub mod Contents
pub mod Sharing
pub mod Changes
pub mod NewPages
pub mod Access
