pub mod Inside
pub mod Onward
pub mod Writes
pub mod Callers
