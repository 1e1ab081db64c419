pub mod Asked
pub mod Tests
pub mod Carry
pub mod Sense
pub mod Begun
pub mod Placed
