pub mod Louds
pub mod Laws
pub mod Leaves
pub mod Nodes
pub mod Halves
