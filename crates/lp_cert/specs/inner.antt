-- What only loops keep.
pub mod Derives
pub mod Evaluated
pub mod Left
pub mod Named
pub mod Parts
pub mod Put
pub mod Tops
pub mod Turned
pub mod Waiting
