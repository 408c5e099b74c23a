pub mod Sizes
pub mod Passing
pub mod Levels
pub mod OneSpan
pub mod Whole
