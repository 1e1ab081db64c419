pub mod Steps
pub mod Marks
pub mod Rising
pub mod Five
pub mod Floor
pub mod Asked
pub mod Ranges
