pub mod Ends
pub mod Nexts
