pub mod Operands
pub mod Numbers
pub mod Kinds
pub mod Constants
pub mod Schemes
pub mod Connectives
pub mod Positive
