pub mod Copied
pub mod Printing
