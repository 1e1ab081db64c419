pub mod Fresh
pub mod Merging
pub mod Keeping
pub mod Copied
pub mod Pass
