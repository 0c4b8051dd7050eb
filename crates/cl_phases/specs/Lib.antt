pub mod SlotReads
pub mod SlotSearch
pub mod Earlier
pub mod Limits
pub mod Repeats
pub mod DeclaredNames
pub mod CommandNames
pub mod Twice
