-- What public clauses cite.
pub mod Going
pub mod Merge
pub mod Shared
pub mod Since
pub mod Waits
