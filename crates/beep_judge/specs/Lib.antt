-- What public clauses cite.
pub mod Kept
pub mod Judges
-- What proofs alone need: what is kept of a life and of its octets, and what each change does.
pub mod Flows
pub mod Lived
pub mod Edits
pub mod Grants
