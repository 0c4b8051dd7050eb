pub mod Order
pub mod Groups
