pub mod Plain
pub mod RowsRead
pub mod Spelled
pub mod Rebuilt
pub mod RowsBack
pub mod WholeTexts
pub mod ReadBack
pub mod Lengths
