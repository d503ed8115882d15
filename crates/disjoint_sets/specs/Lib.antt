pub mod Sets
pub mod Links
