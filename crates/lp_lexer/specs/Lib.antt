pub mod Bytes
pub mod Front
pub mod Comments
pub mod Forms
pub mod Stands
pub mod Lexis
pub mod Lexed
pub mod Laws
