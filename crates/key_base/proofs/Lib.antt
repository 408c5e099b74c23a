mod KeyLists
pub mod Prefixes
