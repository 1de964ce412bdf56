pub mod Threads
pub mod ThreadParts
