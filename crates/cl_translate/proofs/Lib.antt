mod CandidateLemmas
mod FirstLemmas
mod GivesLemmas
mod HighLemmas
