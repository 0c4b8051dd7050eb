pub mod Data
pub mod Shared
pub mod OrderLaws
pub mod Value
pub mod Measured
pub mod Falls
