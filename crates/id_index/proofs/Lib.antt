pub mod FirstRows
pub mod Twice
pub mod Filling
pub mod Sorted
pub mod Indexes
