pub mod Keeps
pub mod Among
