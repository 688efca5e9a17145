pub mod Unnegated
pub mod Terms
pub mod Filled
pub mod Open
pub mod Assumed
pub mod Worked
