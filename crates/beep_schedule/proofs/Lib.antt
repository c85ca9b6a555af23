mod NumberLemmas
mod WordLemmas
mod EventLemmas
mod LineLemmas
mod TextLemmas
mod MadeLemmas
mod LawLemmas
