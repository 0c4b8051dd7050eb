pub mod Handled
pub mod Live
pub mod Running
pub mod Serving
pub mod Showing
