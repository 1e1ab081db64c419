pub mod Counts
pub mod Book
pub mod Logs
pub mod Made
