pub mod Places
pub mod Facts
pub mod Totals
pub mod Exactly
