pub mod Joined
pub mod Under
pub mod Walked
