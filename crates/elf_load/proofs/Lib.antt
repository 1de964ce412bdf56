mod Headers
mod Pages
mod Refusal
pub mod Accepted
mod SharedBytes
