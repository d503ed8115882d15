pub mod Matching
pub mod Pairs
pub mod ParenView
