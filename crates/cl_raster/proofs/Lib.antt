pub mod Boxes
pub mod Joins
pub mod Places
pub mod Progress
pub mod Readings
pub mod Replays
pub mod Spelling
pub mod WireSteps
