pub mod Extending
pub mod Filling
pub mod Runs
pub mod SpanRows
