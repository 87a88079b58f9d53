pub mod Bytes
pub mod Header
pub mod Refusals
pub mod Sections
pub mod Whole
pub mod Writing
