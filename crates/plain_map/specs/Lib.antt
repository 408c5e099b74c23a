pub use Rattle.map_model.specs.Slices
pub use Rattle.map_model.specs.SortedMap
