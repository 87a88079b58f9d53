pub mod Ints
pub mod Ring
pub mod Sums
pub mod Back
pub mod Estimate
pub mod Theorems
pub mod Squares
