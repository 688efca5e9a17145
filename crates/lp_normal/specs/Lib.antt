pub mod Flats
pub mod Within
pub mod Making
pub mod Counted
pub mod inner
