-- What public clauses cite.
pub mod Between
pub mod Causes
pub mod Status
-- Crates below, which are named through this one.
pub use Rattle.beep_wires
