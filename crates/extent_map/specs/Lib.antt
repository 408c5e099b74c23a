pub use Rattle.extent_model.specs.Extents
pub use Rattle.extent_model.specs.Gaps
pub use Rattle.key_base.specs.Limits
pub mod Taken
