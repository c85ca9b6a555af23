mod KeptLemmas
mod LawLemmas
