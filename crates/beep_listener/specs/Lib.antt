-- What public clauses cite.
pub mod Listening
-- What proofs alone need: what a listener keeps between two turns, and of which lives.
pub mod Pruning
pub mod Speaking
pub mod SpeakingTurning
pub mod Turning
-- Crates below, which are named through this one.
pub use Rattle.beep_steps.specs.beep_frame
pub use Rattle.beep_steps.specs.beep_seq
pub use Rattle.beep_steps.specs.beep_history
pub use Rattle.beep_steps.specs.beep_settings
pub use Rattle.beep_steps.specs.beep_journal
pub use Rattle.beep_steps.specs.beep_lawful
pub use Rattle.beep_steps.specs.beep_answering
pub use Rattle.beep_steps.specs.beep_session
pub use Rattle.beep_steps.specs.beep_logged
pub use Rattle.beep_steps.specs.prof_raw
pub use Rattle.beep_steps.specs.beep_wires
pub use Rattle.beep_steps.specs.beep_link
pub use Rattle.beep_steps
