pub use Rattle.block_model.specs.Block
pub use Rattle.block_model.specs.Index
pub use Rattle.block_model.specs.Pages
pub use Rattle.entry_model.specs.Entries
pub use Rattle.key_base.specs.Limits
