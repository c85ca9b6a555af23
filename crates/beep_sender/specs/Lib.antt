-- What proofs alone need: what a sender keeps between two turns.
pub mod Asking
pub mod Sender
pub mod SenderTurning
