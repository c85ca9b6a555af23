-- What public clauses cite.
pub mod Seen
pub mod OneLife
pub mod Run
pub mod Octets
