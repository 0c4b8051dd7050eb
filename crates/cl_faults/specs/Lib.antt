pub mod Faults
pub mod Loaded
