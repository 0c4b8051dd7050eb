pub mod DeclarationCounts
pub mod PaneLemmas
pub mod DeclareSteps
