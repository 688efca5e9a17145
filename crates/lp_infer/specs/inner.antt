-- What the loops of the crate keep.
pub mod Parts
pub mod Turns
pub mod Waiting
pub mod Rooms
