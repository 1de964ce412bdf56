pub mod Changes
pub mod Texts
pub mod Printed
