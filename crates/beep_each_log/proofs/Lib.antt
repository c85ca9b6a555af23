pub mod NextLemmas
pub mod EachLemmas
