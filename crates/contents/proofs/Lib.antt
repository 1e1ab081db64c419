pub mod Book
pub mod Contents
pub mod Equal
