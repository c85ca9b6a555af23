-- Proofs.
mod GotLemmas
mod ReplayLemmas
mod RunLemmas
