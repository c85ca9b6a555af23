mod CanonicalLemmas
mod CharLemmas
mod ElementLemmas
mod FinishLemmas
pub mod LawLemmas
mod PlaceLemmas
mod ReachedLemmas
mod ReadLemmas
mod ReadingLemmas
mod RoomLemmas
mod RunLemmas
mod SaidLemmas
mod StepLemmas
pub mod WrittenLemmas
