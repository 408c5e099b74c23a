pub use Rattle.byte_fields.specs.Faults as ImageFaults
pub use Rattle.filter_api.specs.declared.errors
pub use Rattle.filter_api.specs.Spellings
pub use Rattle.filter_image_model.specs.Reading
pub use Rattle.filter_model.specs.Answers
pub use Rattle.filter_model.specs.Image
pub use Rattle.filter_model.specs.Leaves
pub use Rattle.trie_model.specs.Walks
pub mod Cutoffs
pub mod Faults
pub mod Reaching
pub mod ImageLaws
