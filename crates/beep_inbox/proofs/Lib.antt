pub mod RunsLemmas
pub mod PartsLemmas
