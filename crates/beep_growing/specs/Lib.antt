-- What public clauses cite.
pub mod Growing
