pub mod Cutoffs
pub mod SlotLeaves
pub mod Points
pub mod Refusals
pub mod Differences
