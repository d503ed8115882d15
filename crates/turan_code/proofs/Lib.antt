pub mod Views
pub mod Faults
pub mod Picked
pub mod Numbered
pub mod MadeCode
