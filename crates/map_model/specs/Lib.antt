pub use Rattle.key_base.specs.ByteOrder
pub mod SortedMap
pub mod Slices
pub mod Laws
pub mod Examples
