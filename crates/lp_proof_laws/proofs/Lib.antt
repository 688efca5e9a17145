pub mod Uniform
pub mod Flattened
