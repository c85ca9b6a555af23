-- Proofs.
mod FedLemmas
mod FoundLemmas
mod GatherLemmas
mod LineLemmas
mod ListingLemmas
