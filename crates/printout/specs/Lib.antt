pub mod Lines
pub mod Printouts
pub mod Refusals
pub mod Words
