pub mod Centre
pub mod Keeping
