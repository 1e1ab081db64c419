pub mod Steps
pub mod Printing
pub mod Parted
pub mod ByKey
