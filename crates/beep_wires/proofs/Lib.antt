mod LogLemmas
mod ReadLemmas
mod TransferLemmas
mod WriteLemmas
