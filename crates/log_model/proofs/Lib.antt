pub mod Appended
pub mod Bodies
pub mod BrokenAreas
pub mod Ends
pub mod Logs
pub mod Readings
pub mod Walks
pub mod Windows
