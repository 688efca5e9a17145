pub mod inner
pub mod Meaning
pub mod Stands
