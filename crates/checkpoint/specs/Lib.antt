pub mod Applies
pub mod Fitting
pub mod Made
pub mod Patches
