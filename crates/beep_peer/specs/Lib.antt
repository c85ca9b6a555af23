-- What public clauses cite.
pub mod Peering
pub mod Calls
pub mod Waiting
pub mod Standing
pub mod Acts
pub mod Asking
pub mod Left
pub mod Lawfully
-- What proofs alone need.
pub mod Grants
-- Crates below, which are named through this one.
pub use Rattle.beep_upright.specs.beep_octets
pub use Rattle.beep_upright.specs.beep_frame
pub use Rattle.beep_upright.specs.beep_seq
pub use Rattle.beep_upright.specs.beep_history
pub use Rattle.beep_upright.specs.beep_exchange
pub use Rattle.beep_upright.specs.beep_inbox
pub use Rattle.beep_upright.specs.beep_outbox
pub use Rattle.beep_upright.specs.beep_channel
pub use Rattle.beep_upright.specs.beep_turns
pub use Rattle.beep_upright.specs.beep_lives
pub use Rattle.beep_upright.specs.beep_chars
pub use Rattle.beep_upright.specs.beep_mime
pub use Rattle.beep_upright.specs.beep_text
pub use Rattle.beep_upright.specs.beep_mgmt
pub use Rattle.beep_upright.specs.beep_journal
pub use Rattle.beep_upright.specs.beep_spoken
pub use Rattle.beep_upright.specs.beep_decide
pub use Rattle.beep_upright.specs.beep_lawful
pub use Rattle.beep_upright.specs.beep_standing
pub use Rattle.beep_upright.specs.beep_asked
pub use Rattle.beep_upright.specs.beep_management
pub use Rattle.beep_upright.specs.beep_speaking
pub use Rattle.beep_hearing
pub use Rattle.beep_upright
pub use Rattle.beep_answering
