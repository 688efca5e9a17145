pub mod Levels
pub mod Right
pub mod TypeSolutions
pub mod Solutions
pub mod Untyped
pub mod Cases
pub mod TypesBelow
