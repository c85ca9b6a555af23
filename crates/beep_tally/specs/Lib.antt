-- What public clauses cite.
pub mod Accounts
