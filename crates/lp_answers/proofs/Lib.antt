pub mod Appending
pub mod Counting
mod Behind
