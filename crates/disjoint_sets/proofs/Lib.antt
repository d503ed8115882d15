pub mod Leading
pub mod Numbering
pub mod Joining
pub mod SetLaws
