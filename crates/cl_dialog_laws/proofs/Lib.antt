pub mod PathLemmas
pub mod CalleeLemmas
pub mod FormLemmas
pub mod DisplayLemmas
