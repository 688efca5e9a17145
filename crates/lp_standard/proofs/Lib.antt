pub mod Positives
