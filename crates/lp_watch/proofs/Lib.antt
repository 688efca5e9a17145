mod Walk
mod Steps
mod Told
