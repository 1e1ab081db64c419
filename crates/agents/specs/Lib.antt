pub mod Requests
pub mod Slots
pub mod Answers
