pub mod Lists
pub mod Demands
pub mod Malformed
pub mod Room
pub mod NothingLost
pub mod Listed
pub mod Retired
