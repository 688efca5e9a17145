pub mod Stacks
pub mod Splits
pub mod Binds
pub mod Costs
pub mod Sights
pub mod Roots
pub mod States
mod Turned
