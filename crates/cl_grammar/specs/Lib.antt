pub mod Heads
pub mod Writes
pub mod Lies
pub mod Sights
pub mod Blames
pub mod Unnamed
