-- What only loops keep.
pub mod Falling
pub mod Making
