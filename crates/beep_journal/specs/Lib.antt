-- What public clauses cite.
pub mod Log
pub mod Lives
pub mod Zero
pub mod Life
pub mod Broken
pub mod Journal
pub mod Texts
pub mod Laws
-- What the values of the plain program stand for.
pub mod Plain
