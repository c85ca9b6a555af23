-- What public clauses cite.
pub mod Tree
pub mod Lawful
pub mod Elements
pub mod Canonical
pub mod Refused
pub mod Listed
pub mod Said
-- What proofs alone need: the reader as a machine, its state in the code, and the size of an
-- element.
pub mod Machine
pub mod Reading
pub mod Falls
