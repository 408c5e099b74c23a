pub mod Shown
pub mod Pieces
pub mod Blocks
pub mod OneTable
pub mod Written
pub mod Decided
pub mod Kept
pub mod Sound
