pub mod Steps
pub mod Sorting
pub mod Made
