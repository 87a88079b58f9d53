pub mod Rounds
pub mod Properly
pub mod Products
