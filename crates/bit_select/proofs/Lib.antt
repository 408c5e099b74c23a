pub mod Table
pub mod Windows
pub mod Selecting
pub mod Sampling
pub mod FirstFour
