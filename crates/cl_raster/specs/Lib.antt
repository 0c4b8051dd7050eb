pub mod Laws
pub mod Playback
pub mod Raster
pub mod Tied
pub mod Wires
