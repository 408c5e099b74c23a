pub use Rattle.bit_model.specs.Packed
pub mod Blocks
pub mod Words
