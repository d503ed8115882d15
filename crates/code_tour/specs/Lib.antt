pub mod OpenPairs
pub mod Gap
pub mod Passed
pub mod Tour
