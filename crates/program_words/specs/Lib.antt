pub use Rattle.filter_api.specs.declared.settings
pub mod CommandLine
pub mod Loads
pub mod WantedSettings
pub mod NewStores
pub mod Asked
