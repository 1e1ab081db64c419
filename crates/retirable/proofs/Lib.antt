mod One
mod Walk
mod First
