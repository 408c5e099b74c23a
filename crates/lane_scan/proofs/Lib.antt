pub mod Firsts
pub mod Counts
pub mod Marks
pub mod Bits
