pub use Rattle.entry_model.specs.Entries
pub use Rattle.load_gen.specs.Generator
pub use Rattle.load_gen.specs.Summary
