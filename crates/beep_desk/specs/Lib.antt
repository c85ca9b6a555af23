-- What public clauses cite.
pub mod Alike
pub mod Listed
pub mod Placed
pub mod Waiting
pub mod Desks
-- Crates below, which are named through this one.
pub use Rattle.beep_script.specs.prof_raw
pub use Rattle.beep_script.specs.beep_talk
pub use Rattle.beep_script
