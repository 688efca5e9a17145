pub mod inner
pub mod Kinds
pub mod Spines
