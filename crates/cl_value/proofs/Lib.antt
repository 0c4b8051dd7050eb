pub mod Parts
pub mod Same
pub mod Measures
pub mod Rows
