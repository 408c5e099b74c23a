mod Keys
mod BlockSums
mod Builders
mod Helds
mod RangeWalks
mod RangeStarts
mod IndexWalks
mod IntoTable
mod Damages
mod Lookups
mod Lasts
mod Rooms
mod PartsMade
mod Searches
mod Standing
pub mod Stands
mod Walks
mod Written
