pub mod Types
pub mod Apart
pub mod Refusals
pub mod Outcome
pub mod Reason
pub mod Application
pub mod Settling
pub mod Loads
