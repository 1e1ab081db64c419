pub mod Sizes
pub mod Workflows
pub mod Laws
pub mod Edges
pub mod Placed
