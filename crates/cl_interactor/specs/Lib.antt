pub mod Expected
pub mod Laws
pub mod Rows
pub mod Typed
