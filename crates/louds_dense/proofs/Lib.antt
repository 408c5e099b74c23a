pub mod Nodes
pub mod Ranks
pub mod Spelled
pub mod Built
pub mod Searches
pub mod Branches
