-- What loops keep.
pub mod Known
pub mod Parts
pub mod Tops
pub mod Waiting
