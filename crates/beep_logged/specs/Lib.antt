-- What public clauses cite.
pub mod Logged
