pub mod Names
pub mod Shipped
