pub mod Outside
pub mod FailingCalls
pub mod MemorySource
pub mod MemorySink
pub mod HeldFiles
pub mod MemoryShelf
pub mod Adapters
