pub mod EachLemmas
pub mod ZeroLemmas
pub mod NewLemmas
pub mod ArriveLemmas
pub mod SendLemmas
pub mod LivesLemmas
pub mod MovesLemmas
pub mod DueLemmas
