pub mod App
pub mod Panes
