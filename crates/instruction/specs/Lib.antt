pub mod Pending
pub mod Step
