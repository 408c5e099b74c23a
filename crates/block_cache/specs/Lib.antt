pub mod Lends
pub mod Kept
pub mod Laws
