mod Doing
mod Asking
mod Watching
