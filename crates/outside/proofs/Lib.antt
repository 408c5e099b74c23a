pub mod Clocks
pub mod Crossing
pub mod Endings
pub mod HandingOn
pub mod Pieces
pub mod Rows
pub mod Sessions
