pub mod Lines
pub mod Ends
pub mod Refusals
pub mod Placed
pub mod Looked
pub mod Left
pub mod Causes
