pub use Rattle.filter_model.specs.Examples
pub mod Whole
pub mod Laws
pub mod ExampleKeys
