pub mod Lines
pub mod Form
pub mod Said
pub mod Replies
pub mod Served
