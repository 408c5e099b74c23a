pub use Rattle.filter_model.specs.Keys
pub mod Stubs
