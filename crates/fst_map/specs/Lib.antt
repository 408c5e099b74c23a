pub mod Opened
pub mod Slots
pub mod Places
pub mod Adding
pub mod Writing
