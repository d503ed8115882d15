pub mod Ids
pub mod Few
pub mod Summing
pub mod Wholes
