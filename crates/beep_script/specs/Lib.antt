-- What public clauses cite.
pub mod Desk
pub mod Script
pub mod Prompt
pub mod Lines
pub mod Refused
pub mod EachEnd
pub mod Laws
pub mod Requested
pub mod Sending
-- Crates below, which are named through this one.
pub use Rattle.beep_frame
pub use Rattle.beep_history
pub use Rattle.beep_chars
pub use Rattle.beep_text
pub use Rattle.beep_mgmt
pub use Rattle.beep_journal
pub use Rattle.beep_decide
pub use Rattle.beep_lawful
pub use Rattle.prof_raw
pub use Rattle.beep_talk
