pub mod Changes
pub mod Cursors
