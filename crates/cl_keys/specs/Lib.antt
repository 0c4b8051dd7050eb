pub mod Decoding
pub mod Gestures
pub mod Keys
pub mod Laws
pub mod Phases
pub mod Reports
pub mod Spelling
