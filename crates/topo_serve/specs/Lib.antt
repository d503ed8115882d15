pub mod Ahead
pub mod Gathering
pub mod Items
pub mod Pieces
pub mod Serving
pub mod Unknown
