pub mod Crossings
pub mod Darts
pub mod Faults
pub mod Marks
pub mod Rotations
pub mod Tours
pub mod Walks
