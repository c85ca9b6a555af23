pub mod LengthLemmas
pub mod MessageLemmas
pub mod PlaceLemmas
pub mod DecidedLemmas
pub mod ReplyLemmas
