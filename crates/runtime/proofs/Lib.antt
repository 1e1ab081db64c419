pub mod Rules
pub mod Turning
pub mod Arriving
pub mod Listing
pub mod Retiring
