pub mod InParts
pub mod SameProbes
pub mod SearchLemmas
pub mod NextLemmas
