pub mod Equations
pub mod Solving
pub mod Units
pub mod Typing
pub mod Generate
