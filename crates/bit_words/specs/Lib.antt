pub use Rattle.bit_model.specs.Packed
pub use Rattle.bit_model.specs.Numbers
pub use Rattle.lane_scan.specs.Places
pub mod Counts
pub mod Laws
pub mod Room
