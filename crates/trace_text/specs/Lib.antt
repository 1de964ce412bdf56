pub mod Lines
pub mod Digest
pub mod States
pub mod MemoryText
