pub use Rattle.key_base.specs.Limits
pub use Rattle.map_model.specs.SortedMap
pub mod Entries
pub mod Newest
pub mod Reading
pub mod Laws
pub mod Examples
