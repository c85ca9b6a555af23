-- What public clauses cite.
pub mod Texts
pub mod Summary
-- Crates below, which are named through this one.
pub use Rattle.beep_tally
