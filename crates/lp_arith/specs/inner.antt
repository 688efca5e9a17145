pub mod ByOperation
pub mod Frames
pub mod Numbers
pub mod Refusals
