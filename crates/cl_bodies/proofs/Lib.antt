pub mod BodyCounts
pub mod BodySteps
pub mod DisplayFormCounts
pub mod PathParts
pub mod StatementCounts
pub mod TypeSubs
