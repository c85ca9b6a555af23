pub mod QueueLemmas
pub mod EntriesLemmas
