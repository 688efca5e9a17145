pub mod Telling
pub mod Asking
pub mod Programs
pub mod Refusing
pub mod Unbuilding
