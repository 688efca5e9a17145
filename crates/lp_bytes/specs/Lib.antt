pub mod Numbers
pub mod Reading
pub mod Spellable
pub mod Writing
