pub mod Layout
pub mod Questions
