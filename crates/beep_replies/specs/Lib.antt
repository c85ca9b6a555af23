-- What public clauses cite.
pub mod Replies
