pub mod Refusals
pub mod Variables
pub mod Faults
pub mod Outcomes
pub mod Fitting
