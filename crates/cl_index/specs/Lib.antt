pub mod Boxes
pub mod Found
pub mod Looks
