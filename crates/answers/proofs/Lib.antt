pub mod Cores
pub mod Asked
pub mod Printing
