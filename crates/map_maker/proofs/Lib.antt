pub mod Adding
pub mod Ranges
