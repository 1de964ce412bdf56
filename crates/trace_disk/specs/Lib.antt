pub mod Calls
pub mod FailOnce
pub mod FileDisk
pub mod MemDisk
pub mod Started
pub mod Devices
