-- What public clauses cite.
pub mod Kept
pub mod Asked
pub mod Granting
-- What the values of the code stand for.
pub mod Request
-- Crates below, which are named through this one.
pub use Rattle.beep_standing.specs.beep_octets
pub use Rattle.beep_standing.specs.beep_frame
pub use Rattle.beep_standing.specs.beep_seq
pub use Rattle.beep_standing.specs.beep_history
pub use Rattle.beep_standing.specs.beep_exchange
pub use Rattle.beep_standing.specs.beep_inbox
pub use Rattle.beep_standing.specs.beep_outbox
pub use Rattle.beep_standing.specs.beep_channel
pub use Rattle.beep_standing.specs.beep_turns
pub use Rattle.beep_standing.specs.beep_lives
pub use Rattle.beep_standing.specs.beep_chars
pub use Rattle.beep_standing.specs.beep_mime
pub use Rattle.beep_standing.specs.beep_text
pub use Rattle.beep_standing.specs.beep_mgmt
pub use Rattle.beep_standing.specs.beep_journal
pub use Rattle.beep_decide
pub use Rattle.beep_standing
