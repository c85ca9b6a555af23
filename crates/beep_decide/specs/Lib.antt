-- What public clauses cite.
pub mod Asks
pub mod Numbers
pub mod Decide
pub mod Laws
-- What the values of the plain program stand for.
pub mod Plain
