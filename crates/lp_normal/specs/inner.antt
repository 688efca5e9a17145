-- What only the making of lists keeps.
pub mod Met
pub mod Work
pub mod Kinds
