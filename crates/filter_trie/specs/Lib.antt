pub use Rattle.filter_api.specs.Spellings
pub use Rattle.filter_image_model.specs.Reading
pub use Rattle.filter_model.specs.Image
pub use Rattle.filter_model.specs.Keys
pub use Rattle.filter_model.specs.Leaves
pub use Rattle.filter_model.specs.Trie
pub use Rattle.key_base.specs.Limits
pub use Rattle.louds_sparse.specs.Leads
pub use Rattle.suffix_bits.specs.Slots
pub use Rattle.trie_laws.specs.Halves as SecondHalves
pub use Rattle.trie_levels.specs.Spans
pub use Rattle.trie_model.specs.Halves
pub use Rattle.trie_model.specs.Walks as TrieWalks
pub mod Parts
pub mod Walks
pub mod Building
pub mod Pending
pub mod Gathered
pub mod Places
pub mod LevelStarts
pub mod Laws
