pub mod Lanes
pub mod Masks
pub mod Pages
