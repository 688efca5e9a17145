mod Telling
mod Lines
mod Answering
mod Reducts
mod Nexts
mod Followed
mod Hearing
mod Beginning
mod Truth
mod Reporting
mod Refused
mod Naming
pub mod Texts
