mod ListLemmas
mod PieceLemmas
mod PlainLemmas
mod EntryLemmas
mod PlainEntryLemmas
