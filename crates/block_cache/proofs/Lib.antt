pub mod Gives
pub mod Places
pub mod Results
pub mod Shown
