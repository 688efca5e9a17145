pub mod Reading
pub mod Looking
pub mod Counting
pub mod Sharing
