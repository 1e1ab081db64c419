pub mod Tests
pub mod Updates
pub mod Questions
pub mod Chains
pub mod Each
pub mod Every
pub mod Counts
