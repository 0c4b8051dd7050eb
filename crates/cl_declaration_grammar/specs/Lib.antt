pub mod Parts
pub mod Commands
pub mod Frames
pub mod UserTypes
pub mod Translators
pub mod Dialogs
pub mod Declarations
pub mod Texts
