pub mod ReadingLemmas
pub mod OpeningLemmas
pub mod PlacingLemmas
pub mod DefaultLemmas
pub mod ElseLemmas
pub mod DialogReadings
