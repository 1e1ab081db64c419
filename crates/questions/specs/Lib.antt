pub mod Basics
pub mod Questions
pub mod Verdicts
