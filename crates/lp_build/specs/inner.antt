pub mod Linked
pub mod Placed
pub mod Wholes
pub mod Coded
pub mod Refusing
pub mod Walking
