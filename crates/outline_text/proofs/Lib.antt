pub mod RingText
pub mod BorderText
