pub mod Ones
pub mod Places
