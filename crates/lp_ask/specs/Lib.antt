pub mod Unwritten
pub mod Allowed
pub mod Ended
