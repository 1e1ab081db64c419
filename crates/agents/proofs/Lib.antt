pub mod Slots
pub mod Answers
pub mod Typed
pub mod Blank
mod InSlots
