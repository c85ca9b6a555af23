-- What public clauses cite.
pub mod Logged
pub mod Record
pub mod Refused
pub mod Written
pub mod Verdicts
-- What proofs alone need: the reader as a machine, and its state in the code.
pub mod Machine
pub mod Reading
pub mod Following
pub mod Replaying
pub mod TextReplaying
