pub mod Bodies
pub mod Copied
pub mod Kept
pub mod Numbered
