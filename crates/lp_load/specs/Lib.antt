pub mod Placed
pub mod Tells
pub mod Asked
pub mod Loaded
pub mod Refused
pub mod Unbuilt
