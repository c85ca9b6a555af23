pub mod KeptLemmas
pub mod AskedLemmas
pub mod MovesLemmas
pub mod QueueLemmas
pub mod LawsLemmas
