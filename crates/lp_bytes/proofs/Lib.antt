-- Text behind text, and what reading takes and gives back.
pub mod Again
pub mod Lengthened
pub mod Looping
pub mod Taking
