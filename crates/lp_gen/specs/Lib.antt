pub mod Sources
pub mod Steps
pub mod Limits
pub mod Registers
pub mod Contract
pub mod Worked
pub mod inner
