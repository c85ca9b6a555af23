-- What public clauses cite.
pub mod Runs
pub mod Replayed
-- Crates below, which are named through this one.
pub use Rattle.beep_listener.specs.beep_frame
pub use Rattle.beep_listener.specs.beep_history
pub use Rattle.beep_listener.specs.beep_settings
pub use Rattle.beep_listener.specs.beep_journal
pub use Rattle.beep_listener.specs.beep_session
pub use Rattle.beep_recorder.specs.beep_record
pub use Rattle.beep_listener.specs.prof_raw
pub use Rattle.beep_listener.specs.beep_wires
pub use Rattle.beep_recorder
pub use Rattle.beep_listener.specs.beep_link
pub use Rattle.beep_listener.specs.beep_steps
pub use Rattle.beep_listener
