pub mod Names
pub mod Caches
pub mod Forms
