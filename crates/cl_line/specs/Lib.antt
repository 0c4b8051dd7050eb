pub mod Elements
pub mod Laws
pub mod Lies
pub mod Lines
pub mod Places
pub mod Texts
pub mod Tokens
