pub mod Usage
pub mod Fulfils
pub mod Hears
pub mod Does
