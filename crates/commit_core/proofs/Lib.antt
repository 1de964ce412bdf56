pub mod Lists
pub mod Events
pub mod Holders
pub mod Runs
mod Stages
mod Invariant
mod Rows
mod Schedules
mod Recovery
mod Opening
mod Sessions
mod SessionSafety
mod FailedCalls
mod ExampleGuest
mod ExampleWorld
mod ExampleCrash
mod ExampleSessions
mod ExampleFailures
mod ExampleGroup
mod ExampleRepair
mod ExampleMark
