pub mod Standing
pub mod Grown
mod Wholes
mod Coming
mod Ending
