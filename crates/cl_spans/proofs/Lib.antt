pub mod AddLemmas
pub mod ExtendLemmas
pub mod FillLemmas
pub mod FilledLemmas
pub mod RowLemmas
pub mod RunLemmas
