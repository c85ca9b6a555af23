-- What public clauses cite.
pub mod Lives
pub mod Edits
-- What proofs alone need: where in the list a channel stands.
pub mod Place
