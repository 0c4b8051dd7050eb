pub mod Sights
pub mod Steps
pub mod Walk
pub mod Listed
pub mod Updates
pub mod PathText
