pub mod Layout
pub mod Rows
pub mod Parts
pub mod Answers
pub mod Questions
pub mod Sound
pub mod Created
pub mod Ordered
