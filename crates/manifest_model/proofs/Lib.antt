pub mod VersionsRead
pub mod VersionsWritten
pub mod Held
pub mod Versions
pub mod SlotFrames
pub mod Installs
pub mod Rows
pub mod NewVersions
