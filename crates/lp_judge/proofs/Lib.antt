mod Telling
mod Questions
mod Insides
mod Closed
mod Checkings
mod Provings
pub mod Sourced
mod Negations
