pub use Rattle.bit_model.specs.Packed
pub use Rattle.filter_model.specs.Leaves
pub use Rattle.filter_model.specs.Strings
pub use Rattle.filter_model.specs.Suffixes
pub use Rattle.key_base.specs.Limits
pub mod Slots
pub mod Laws
pub mod Room
