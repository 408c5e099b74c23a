pub mod Cleared
pub mod Fills
pub mod Flat
pub mod Found
pub mod Ordered
pub mod Places
mod Examples
pub mod Setting
pub mod Changes
