pub mod Steps
pub mod Summing
