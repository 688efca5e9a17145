pub mod Ends
pub mod Applied
pub mod Opened
pub mod Computable
pub mod Headed
pub mod Weights
pub mod Typed
