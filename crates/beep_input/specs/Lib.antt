-- What public clauses cite.
pub mod Whole
pub mod Lines
-- What proofs alone need: what was read so far, and how far a line goes.
pub mod Gathering
pub mod Walk
pub mod Listing
