pub mod BoolLemmas
mod TextLemmas
pub mod WordLemmas
