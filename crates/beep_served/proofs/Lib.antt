pub mod ProfileLemmas
pub mod PositionLemmas
pub mod ShownLemmas
