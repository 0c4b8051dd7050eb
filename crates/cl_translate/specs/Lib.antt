pub mod Heads
pub mod Scenes
pub mod Applies
pub mod Choices
pub mod Highs
