pub mod Frames
pub mod Inside
pub mod Waits
pub mod Heads
pub mod TypeEquations
pub mod TypeTurns
