pub mod Layout
pub mod Questions
pub mod Refusal
pub mod Stopped
pub mod Right
pub mod Meaning
