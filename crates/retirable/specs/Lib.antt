pub mod Retirable
