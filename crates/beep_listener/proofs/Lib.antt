-- Proofs.
mod DeniedLemmas
mod GatherLemmas
mod HearLemmas
mod ListenLemmas
pub mod NoteLemmas
mod PartLemmas
mod PruneLemmas
mod SpeakingLemmas
mod RefusingLemmas
mod RestingLemmas
pub mod ServingLemmas
mod TextLemmas
mod UnderLemmas
