pub mod Given
pub mod Reading
pub mod Taking
pub mod Noting
pub mod Telling
pub mod Inside
pub mod Tasks
