pub use Rattle.filter_api.specs.Spellings
pub use Rattle.filter_model.specs.Leaves
pub use Rattle.filter_model.specs.Strings
pub use Rattle.filter_model.specs.Valid
pub use Rattle.key_base.specs.Limits
pub mod Spelling
pub mod Reading
pub mod Neighbours
