pub mod Balances
pub mod Greatest
pub mod Arcs
pub mod Enclosing
pub mod Commons
pub mod Runs
pub mod Matched
