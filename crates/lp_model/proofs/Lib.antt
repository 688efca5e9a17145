pub mod Connectives
pub mod Numbers
