pub mod Lists
pub mod Free
pub mod Rooms
pub mod AnyOrder
pub mod AllGaps
