pub mod Worklist
pub mod Bytes
