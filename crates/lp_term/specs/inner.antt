-- What only loops keep.
pub mod Reading
pub mod Rebuilt
pub mod Walking
