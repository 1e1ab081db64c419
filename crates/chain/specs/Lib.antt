pub mod Chain
pub mod Demands
pub mod InOrder
pub mod RequestZero
pub mod Room
pub mod NothingLost
pub mod Retired
pub mod Listed
