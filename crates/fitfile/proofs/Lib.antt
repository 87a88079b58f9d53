pub mod Accepted
pub mod Chunks
pub mod WrittenFiles
