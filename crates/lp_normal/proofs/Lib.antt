mod Bodies
mod Deriving
mod Written
mod Shifts
mod Bounds
mod Inversions
mod Comings
mod Steps
mod Scopes
pub mod Meanings
mod Counts
mod Works
mod ClauseSteps
mod Turnings
mod Nested
