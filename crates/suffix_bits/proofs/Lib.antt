pub mod FilledBits
pub mod Packing
