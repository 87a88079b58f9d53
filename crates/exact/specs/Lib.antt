pub mod Sums
pub mod Fits
pub mod Offers
pub mod Theorems
