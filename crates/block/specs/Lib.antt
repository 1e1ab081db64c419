pub mod Run
pub mod Through
