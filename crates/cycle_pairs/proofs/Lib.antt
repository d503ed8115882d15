mod Walk
mod Totals
pub mod Values
pub mod Orbits
mod Nested
pub mod Laws
