pub mod Lookups
pub mod StandardTable
