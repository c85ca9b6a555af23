mod DeskLemmas
mod GoLemmas
mod GrowLemmas
mod SettledLemmas
pub mod SentLemmas
mod OnceLemmas
mod WholeLemmas
mod SendLemmas
mod HeardLemmas
mod CloseLemmas
mod ReleaseLemmas
mod GrantLemmas
mod ReplyLemmas
mod OrderLemmas
pub mod RequestedLemmas
pub mod StartedLemmas
pub mod LineLemmas
pub mod OwnLemmas
