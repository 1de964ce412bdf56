pub mod Paths
pub mod Settled
pub mod Sets
pub mod Clocks
pub mod Found
pub mod Example
pub mod Rows
