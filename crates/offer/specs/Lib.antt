pub mod Triangles
pub mod Limits
pub mod Refusals
pub mod Entry
pub mod Within
pub mod Lent
