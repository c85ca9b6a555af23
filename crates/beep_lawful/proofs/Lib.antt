pub mod LawfulLemmas
pub mod DueLemmas
