-- What only loops and private types keep.
pub mod Told
