pub mod Cutting
pub mod Fields
pub mod Numbers
pub mod Records
pub mod Rows
