pub mod Maps
pub mod Between
