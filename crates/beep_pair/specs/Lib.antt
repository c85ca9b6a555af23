-- What public clauses cite.
pub mod Acts
pub mod Ends
pub mod Totals
pub mod Sessions
pub mod World
pub mod Steps
pub mod Drains
pub mod Report
pub mod Command
-- What proofs alone need: the rounds of a drain.
pub mod Draining
-- Crates below, which are named through this one.
pub use Rattle.beep_two_sessions.specs.beep_decide
pub use Rattle.beep_two_sessions.specs.beep_session
pub use Rattle.beep_two_sessions
