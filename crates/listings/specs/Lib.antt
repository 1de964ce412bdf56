pub mod LongList
pub mod Turns
pub mod Printed
pub mod Refused
