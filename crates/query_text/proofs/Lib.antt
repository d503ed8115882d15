pub mod Words
pub mod Queries
pub mod Returns
pub mod Texts
pub mod Ended
pub mod Firsts
