-- Proofs.
mod CommandLemmas
mod FaultLemmas
mod OptionLemmas
pub mod UsableLemmas
mod ValueLemmas
mod WordLemmas
