-- What public clauses cite.
pub mod Turns
pub mod Upright
pub mod Frames
-- Crates below, which are named through this one.
pub use Rattle.beep_management.specs.beep_octets
pub use Rattle.beep_management.specs.beep_frame
pub use Rattle.beep_management.specs.beep_seq
pub use Rattle.beep_management.specs.beep_history
pub use Rattle.beep_management.specs.beep_exchange
pub use Rattle.beep_management.specs.beep_inbox
pub use Rattle.beep_management.specs.beep_outbox
pub use Rattle.beep_management.specs.beep_channel
pub use Rattle.beep_management.specs.beep_turns
pub use Rattle.beep_management.specs.beep_lives
pub use Rattle.beep_management.specs.beep_chars
pub use Rattle.beep_management.specs.beep_mime
pub use Rattle.beep_management.specs.beep_text
pub use Rattle.beep_management.specs.beep_mgmt
pub use Rattle.beep_management.specs.beep_journal
pub use Rattle.beep_management.specs.beep_spoken
pub use Rattle.beep_management.specs.beep_decide
pub use Rattle.beep_lawful
pub use Rattle.beep_management.specs.beep_standing
pub use Rattle.beep_management.specs.beep_asked
pub use Rattle.beep_management
pub use Rattle.beep_speaking
