pub mod Questions
pub mod Cases
