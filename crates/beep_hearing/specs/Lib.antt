-- What public clauses cite.
pub mod Gathered
pub mod Hears
pub mod Answers
-- What proofs alone need.
pub mod Left
