-- Proofs.
mod KeepLemmas
pub mod StandLemmas
