pub mod Placing
pub mod PlacedSoFar
pub mod Connected
