pub mod CountLemmas
pub mod SaidLemmas
pub mod StayLemmas
pub mod PlacedLemmas
pub mod LogLemmas
pub mod BeganLemmas
pub mod SentLemmas
