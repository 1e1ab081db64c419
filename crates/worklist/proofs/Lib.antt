pub mod Typed
mod Places
pub mod Means
pub mod Kept
pub mod Bytes
