pub use Rattle.key_base.specs.Limits
pub mod Extents
pub mod Gaps
pub mod Laws
