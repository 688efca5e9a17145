pub mod Filling
pub mod Listed
pub mod Held
pub mod Named
pub mod Scheme
pub mod Judged
pub mod inner
