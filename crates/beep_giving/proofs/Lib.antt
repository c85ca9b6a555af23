pub mod ChangeLemmas
pub mod CountLemmas
pub mod GivenLemmas
pub mod LooksLemmas
pub mod TakenLemmas
pub mod UprightLemmas
