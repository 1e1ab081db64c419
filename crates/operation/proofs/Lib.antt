pub mod Iff
pub mod Table
