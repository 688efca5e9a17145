mod Feeds
mod Forms
mod Appending
mod Replying
mod Sessions
