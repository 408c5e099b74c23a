pub use Rattle.entry_model.specs.Entries
pub use Rattle.entry_model.specs.Newest
pub use Rattle.key_base.specs.Limits
pub use Rattle.map_model.specs.SortedMap
pub use Rattle.range_model.specs.Ranges
pub use Rattle.range_model.specs.Sources
pub mod ChangeKinds
