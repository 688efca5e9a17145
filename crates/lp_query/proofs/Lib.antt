mod Names
mod Refused
mod Values
mod Ends
pub mod Variables
