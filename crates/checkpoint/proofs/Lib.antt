pub mod Applied
pub mod Made
pub mod Named
pub mod Paged
pub mod Parts
pub mod Patched
pub mod Rests
pub mod Whole
