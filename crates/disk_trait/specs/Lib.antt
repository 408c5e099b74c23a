pub mod Fault
pub mod Image
pub mod Laws
pub mod World
