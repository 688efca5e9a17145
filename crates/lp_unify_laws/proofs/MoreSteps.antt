pub mod Scans
pub mod Rules
pub mod Solving
