pub mod Journal
pub mod Marks
pub mod Windows
pub mod Broken
pub mod Messages
pub mod Moments
