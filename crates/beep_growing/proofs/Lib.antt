-- Proofs.
mod FrontLemmas
mod TalkLemmas
mod SaidLemmas
mod DeskLemmas
pub mod LifeLemmas
pub mod GrowLemmas
