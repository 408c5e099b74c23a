pub mod Caches
pub mod Founds
pub mod Lookeds
pub mod Lookings
pub mod ReadBounds
pub mod ShownBlocks
