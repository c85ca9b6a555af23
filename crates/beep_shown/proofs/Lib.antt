mod ShownLemmas
mod PromptLemmas
