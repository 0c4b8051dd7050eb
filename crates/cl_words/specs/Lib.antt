pub mod Arguments
pub mod Heads
pub mod TypeNames
pub mod Signatures
