pub mod Forward
pub mod Decimals
pub mod Lying
pub mod Reading
pub mod Faulty
