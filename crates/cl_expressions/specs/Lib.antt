pub mod Load
pub mod Leaves
pub mod Scopes
pub mod Expressions
pub mod ExpressionViews
