pub mod Pages
pub mod Space
pub mod Mapping
pub mod Snapshots
pub mod Stores
pub mod WholePages
pub mod Live
