pub mod Layout
pub mod Laid
pub mod Questions
pub mod Refusal
pub mod Meaning
