-- What public clauses cite.
pub mod Plan
pub mod Talk
pub mod AtZero
-- What the values of the plain program stand for.
pub mod Plain
