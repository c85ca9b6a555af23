mod FrontLemmas
mod PairLemmas
