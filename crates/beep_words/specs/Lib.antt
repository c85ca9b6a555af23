-- What public clauses cite.
pub mod CommandSet
pub mod Usable
pub mod Faults
pub mod Helps
-- How words are gone over: of it Faults cites the tests of one option.
pub mod Choosing
-- What proofs alone need.
pub mod Rows
