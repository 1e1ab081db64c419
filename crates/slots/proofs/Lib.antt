pub mod Words
mod Typed
pub mod Records
