mod ReleaseLemmas
mod MomentLemmas
mod GrantLemmas
mod TextsLemmas
pub mod ClosedLemmas
