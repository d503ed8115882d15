pub mod Numbers
pub mod Marks
pub mod Labels
pub mod Counts
pub mod Parts
pub mod Orbits
pub mod Joined
