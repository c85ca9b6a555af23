-- What public clauses cite.
pub mod Tuned
pub mod Closing
pub mod Lawful
pub mod Due
