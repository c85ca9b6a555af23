-- What public clauses cite.
pub mod Form
pub mod Said
pub mod Written
pub mod Message
-- What proofs alone need: what the types say of a value, what one more part does, and the texts
-- that are compared.
pub mod Sized
pub mod Parts
pub mod Canonical
