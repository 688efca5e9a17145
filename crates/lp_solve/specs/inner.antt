-- What only the writing of answers keeps.
pub mod Events
pub mod Heard
pub mod Searched
