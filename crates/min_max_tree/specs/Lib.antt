pub mod Search
pub mod Tree
pub mod Level
pub mod MinMaxView
pub mod Node
pub mod Built
pub mod SearchBack
