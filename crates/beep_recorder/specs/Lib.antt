-- What public clauses cite.
pub mod Said
pub mod Kept
-- What proofs alone need.
pub mod Ordered
-- Crates below, which are named through this one.
pub use Rattle.beep_record
