pub mod LyingLemmas
pub mod QuoteLemmas
pub mod TokenLemmas
pub mod TypedLemmas
