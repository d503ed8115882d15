pub mod Counts
pub mod Checked
pub mod Darts
pub mod Indexed
pub mod Numbered
