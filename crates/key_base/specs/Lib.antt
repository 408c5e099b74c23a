pub mod ByteOrder
pub mod KeyLists
pub mod Limits
pub mod Prefixes
