pub use Rattle.merge_rows.specs.Merges
pub use Rattle.merge_rows.specs.Reads
pub use Rattle.merge_rows.specs.Steps
pub mod Late
pub mod Opening
pub mod Going
pub mod Laws
pub mod Examples
