pub mod Looked
pub mod Beginnings
pub mod Items
pub mod Prices
pub mod Numbered
pub mod Rings
pub mod Standing
pub mod BorderWalk
