pub use Rattle.filter_model.specs.Answers
pub use Rattle.filter_model.specs.Keys
pub use Rattle.filter_model.specs.Leaves
pub mod Waking
pub mod Examples
pub mod Laws
