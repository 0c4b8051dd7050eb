pub mod Ground
pub mod States
pub mod Panes
pub mod Settling
pub mod Frames
pub mod Sending
pub mod Damages
