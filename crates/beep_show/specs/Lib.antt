-- What public clauses cite.
pub mod Texts
pub mod Show
-- What proofs alone need: what each part says of an input.
pub mod LastLine
pub mod Listing
pub mod Passing
pub mod Zero
-- Crates below, which are named through this one.
pub use Rattle.beep_words
pub use Rattle.beep_input
