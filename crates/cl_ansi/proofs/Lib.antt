pub mod Glyphs
pub mod Pictures
pub mod Screens
pub mod Sequences
pub mod Untold
