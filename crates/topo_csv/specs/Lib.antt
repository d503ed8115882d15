pub mod Codes
pub mod Fault
pub mod Left
pub mod Lines
pub mod Numbers
pub mod Plain
pub mod Texts
