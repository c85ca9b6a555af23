pub mod AnswerLemmas
mod NoteLemmas
