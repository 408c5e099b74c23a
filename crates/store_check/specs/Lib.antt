pub use Rattle.byte_fields.specs.Faults
pub use Rattle.disk_trait.specs.Image
pub use Rattle.disk_trait.specs.World
pub use Rattle.filter_api.specs.Spellings
pub use Rattle.filter_model.specs.Keys as FilterKeys
pub use Rattle.entry_model.specs.Entries
pub use Rattle.block_model.specs.BlockReading
pub use Rattle.block_model.specs.Places as BlockPlaces
pub use Rattle.table_model.specs.Damage
pub use Rattle.image_model.specs.Findings
pub use Rattle.table_file.specs.Opened
pub use Rattle.table_file.specs.Search
pub use Rattle.manifest_model.specs.Slots
pub use Rattle.image_model.specs.Stands
pub use Rattle.image_model.specs.Tables as ImageTables
pub use Rattle.state_model.specs.State
pub use Rattle.state_model.specs.View
pub use Rattle.table_model.specs.Tables as StateTables
pub use Rattle.merge_rows.specs.Merges
pub use Rattle.merge_rows.specs.Steps
pub mod Befores
pub mod Blocks
pub mod Causes
pub mod Checks
pub mod Keys
pub mod Lists
pub mod Orders
pub mod Places
pub mod Said
pub mod Summaries
pub mod Tables
pub mod Values
