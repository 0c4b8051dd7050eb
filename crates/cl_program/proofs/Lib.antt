pub mod TextLemmas
pub mod RunLemmas
pub mod StatusLemmas
pub mod CommandLemmas
pub mod OpeningLemmas
pub mod BenchWords
pub mod BenchLemmas
pub mod SayingLemmas
