pub mod Ambients
pub mod Drawing
pub mod Items
pub mod ItemLaws
