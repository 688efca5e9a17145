-- What only the reading of a formula keeps.
pub mod Connected
