pub mod Defaults
pub mod Laws
pub mod One
pub mod Parses
pub mod Tokens
