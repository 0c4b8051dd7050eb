pub mod SureBytes
pub mod Command
pub mod Surroundings
pub mod Texts
pub mod Hosts
pub mod Run
pub mod Commands
pub mod Statuses
