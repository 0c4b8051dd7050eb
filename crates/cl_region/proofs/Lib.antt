pub mod Corners
pub mod Cuts
pub mod Joins
