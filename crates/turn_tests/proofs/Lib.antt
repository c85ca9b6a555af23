-- Proofs.
mod MergeLemmas
mod SharedLemmas
mod SinceLemmas
mod WaitLemmas
