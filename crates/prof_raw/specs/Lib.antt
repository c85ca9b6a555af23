-- What public clauses cite.
pub mod Entries
pub mod Line
-- What proofs alone need: how a list lies in memory, and how far a piece goes.
pub mod Listed
pub mod Walk
