pub mod GatherLemmas
pub mod FoundLemmas
pub mod PlaceLemmas
mod OpeningLemmas
mod KeepingLemmas
pub mod RedrawLemmas
pub mod StandLemmas
pub mod RowLemmas
pub mod RedisplayLemmas
