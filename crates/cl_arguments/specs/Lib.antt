pub mod Kinds
pub mod Probes
pub mod Misfits
pub mod ProbeSearch
