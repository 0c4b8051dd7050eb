pub mod Bytes
pub mod Numbers
pub mod Tokens
pub mod Reads
pub mod Lies
pub mod Faults
