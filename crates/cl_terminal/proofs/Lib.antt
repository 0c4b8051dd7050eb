pub mod Ending
pub mod Handling
pub mod Ready
pub mod Taking
pub mod Turning
