pub mod Rows
pub mod Dense
pub mod Entries
pub mod Repeated
pub mod Index
