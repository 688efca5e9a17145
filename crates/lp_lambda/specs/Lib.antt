pub mod Pattern
pub mod First
pub mod Rows
pub mod inner
