mod Reading
mod Simple
