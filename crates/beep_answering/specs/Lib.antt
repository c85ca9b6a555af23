-- What public clauses cite.
pub mod Sent
pub mod Decided
