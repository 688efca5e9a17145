pub mod Patterns
pub mod Binders
pub mod Parts
pub mod Goals
pub mod Tasks
pub mod Formulas
