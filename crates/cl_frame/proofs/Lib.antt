pub mod ShownPanes
pub mod SettledPanes
pub mod GoingStale
pub mod DeclaredPanes
pub mod PaneSettling
pub mod OpenedPanes
pub mod SentPanes
pub mod ShownFrames
pub mod UpdatedFrames
mod DamagedPanes
mod KeptPanes
mod ShownForms
