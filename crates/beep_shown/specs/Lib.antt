-- What public clauses cite.
pub mod Shown
