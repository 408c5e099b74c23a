pub mod LeafLemmas
pub mod Loops
pub mod Differences
