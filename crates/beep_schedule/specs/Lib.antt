-- What public clauses cite.
pub mod Events
pub mod Schedule
pub mod Refused
pub mod Generated
-- What proofs alone need: how a line is read.
pub mod Reading
