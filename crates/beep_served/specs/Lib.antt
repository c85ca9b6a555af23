-- What public clauses cite.
pub mod Served
