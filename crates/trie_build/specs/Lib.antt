pub use Rattle.trie_laws.specs.Halves
pub use Rattle.trie_levels.specs.Gathering
pub mod Building
pub mod Gathered
