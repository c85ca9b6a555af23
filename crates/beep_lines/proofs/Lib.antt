-- Proofs.
pub mod BodyLemmas
pub mod CountLemmas
pub mod LineLemmas
