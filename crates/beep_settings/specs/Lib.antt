-- What public clauses cite.
pub mod Defaults
