mod WireLemmas
mod StandardFacts
