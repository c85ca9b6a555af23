pub mod Queue
pub mod Unsent
