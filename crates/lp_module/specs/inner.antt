pub mod Judging
pub mod Typed
pub mod Tables
pub mod Assembling
pub mod Numbered
