pub mod Threads
pub mod Leads
