pub mod Answers
pub mod Opening
pub mod Placing
pub mod Readings
