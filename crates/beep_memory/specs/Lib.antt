-- What public clauses cite.
pub mod Gifts
pub mod Wiring
pub mod Answers
-- What proofs alone need: how links in memory keep what happened.
pub mod Kept
pub mod Asking
