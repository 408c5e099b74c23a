pub mod Offsets
pub mod Values
