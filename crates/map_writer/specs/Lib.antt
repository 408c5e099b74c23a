pub use Rattle.map_file_model.specs.Body
pub use Rattle.trie_build.specs.Building
pub mod Orders
pub mod Plans
pub mod Bodies
