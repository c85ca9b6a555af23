pub mod OctetLemmas
pub mod WholeLemmas
pub mod JoinLemmas
pub mod ReadLemmas
pub mod WriteLemmas
pub mod EndLemmas
