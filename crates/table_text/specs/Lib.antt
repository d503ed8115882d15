pub mod RowsOfMap
pub mod TextsRead
