pub mod SettlingLemmas
pub mod ConcludeLemmas
pub mod TypeLemmas
pub mod RingLemmas
pub mod FramingLemmas
pub mod OneOutcome
pub mod LoadLemmas
