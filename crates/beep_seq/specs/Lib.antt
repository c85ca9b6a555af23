pub mod Wire
pub mod Due
pub mod Sending
pub mod Receiving
