pub mod Ends
pub mod Names
pub mod Results
pub mod Written
