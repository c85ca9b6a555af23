-- What public clauses cite.
pub mod Session
pub mod Link
-- Crates below, which are named through this one.
pub use Rattle.beep_two_ends
