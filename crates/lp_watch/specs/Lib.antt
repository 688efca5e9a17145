pub mod Notes
pub mod Seen
pub mod Reports
pub mod Kept
pub mod Crowd
pub mod Told
