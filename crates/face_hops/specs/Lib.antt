pub mod Prices
pub mod Distances
pub mod Search
pub mod Searching
pub mod Way
pub mod HopWalk
pub mod Found
