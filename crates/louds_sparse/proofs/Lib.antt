pub mod Branches
pub mod Spelled
pub mod Searches
pub mod Built
pub mod Counted
