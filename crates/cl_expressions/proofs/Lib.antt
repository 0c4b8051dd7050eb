pub mod Subs
pub mod Onto
pub mod ScopeLemmas
pub mod BindingLemmas
pub mod ExpressionCounts
pub mod NoteLemmas
