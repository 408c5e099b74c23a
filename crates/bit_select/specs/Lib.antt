pub use Rattle.bit_model.specs.Packed
pub use Rattle.bit_words.specs.Counts
pub use Rattle.lane_scan.specs.Ones
pub mod Place
