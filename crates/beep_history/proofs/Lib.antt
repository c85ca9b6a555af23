pub mod AnswersLemmas
pub mod RulesLemmas
pub mod ListsLemmas
pub mod StepsLemmas
pub mod KeptLemmas
pub mod SoundLemmas
pub mod UnbrokenLemmas
pub mod PassedLemmas
pub mod MomentsLemmas
pub mod MarksLemmas
pub mod OrderLemmas
pub mod MessagesLemmas
pub mod RepliesLemmas
pub mod WindowsLemmas
pub mod MirrorLemmas
mod StandardFacts
