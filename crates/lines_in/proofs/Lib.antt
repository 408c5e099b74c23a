pub mod EndCauses
pub mod Footprint
pub mod LastLines
pub mod Pieces
pub mod Readings
pub mod Texts
