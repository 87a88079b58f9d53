pub mod Intervals
pub mod Rounding
pub mod Refusals
pub mod Operations
pub mod Rules
