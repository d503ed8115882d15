pub mod TuranView
pub mod Seen
pub mod Sequences
pub mod CodeWords
pub mod Numbering
