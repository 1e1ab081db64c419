pub mod Parts
pub mod Asked
pub mod Judged
pub mod Steps
pub mod Walked
pub mod Decoded
pub mod Right
pub mod Placed
