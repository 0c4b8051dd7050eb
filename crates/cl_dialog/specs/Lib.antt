pub mod OpenDialog
pub mod Opened
pub mod Variables
pub mod Selected
pub mod Exits
pub mod Held
