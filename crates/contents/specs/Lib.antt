pub mod Contents
pub mod Equal
pub mod Wrote
