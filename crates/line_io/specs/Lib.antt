pub mod Told
pub mod Stores
pub mod Printed
pub mod Files
