mod EntryLemmas
mod ListingLemmas
mod PieceLemmas
mod PassLemmas
mod GoLemmas
mod EndLemmas
