-- What public clauses cite.
pub mod Managed
pub mod Manages
pub mod Moved
pub mod Steps
-- What the values of the code stand for.
pub mod Values
-- Crates below, which are named through this one.
pub use Rattle.beep_asked.specs.beep_octets
pub use Rattle.beep_asked.specs.beep_frame
pub use Rattle.beep_asked.specs.beep_seq
pub use Rattle.beep_asked.specs.beep_history
pub use Rattle.beep_asked.specs.beep_exchange
pub use Rattle.beep_asked.specs.beep_inbox
pub use Rattle.beep_asked.specs.beep_outbox
pub use Rattle.beep_asked.specs.beep_channel
pub use Rattle.beep_asked.specs.beep_turns
pub use Rattle.beep_asked.specs.beep_lives
pub use Rattle.beep_asked.specs.beep_chars
pub use Rattle.beep_asked.specs.beep_mime
pub use Rattle.beep_asked.specs.beep_text
pub use Rattle.beep_asked.specs.beep_mgmt
pub use Rattle.beep_asked.specs.beep_journal
pub use Rattle.beep_spoken
pub use Rattle.beep_asked.specs.beep_decide
pub use Rattle.beep_asked.specs.beep_standing
pub use Rattle.beep_asked
