pub mod Refusals
pub mod Sequences
pub mod Examination
