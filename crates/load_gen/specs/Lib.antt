pub use Rattle.entry_model.specs.Entries
pub mod Generator
pub mod Laws
pub mod Summary
