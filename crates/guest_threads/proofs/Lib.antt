pub mod ByTid
pub mod RunningTids
pub mod SameThreads
pub mod Waking
pub mod ThreadsOfParts
