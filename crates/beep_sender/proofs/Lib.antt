-- Proofs.
mod AskingLemmas
mod GivesLemmas
mod RefusedLemmas
mod RepliesLemmas
mod RestingLemmas
mod ScriptedLemmas
mod SenderLemmas
mod TakingLemmas
mod WholeLemmas
pub mod ClosesLemmas
