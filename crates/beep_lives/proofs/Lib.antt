pub mod ListLemmas
pub mod LivesLemmas
pub mod JoinLemmas
pub mod CallLemmas
