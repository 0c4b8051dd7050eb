pub mod Laws
pub mod Screen
pub mod Sequences
pub mod Terminal
