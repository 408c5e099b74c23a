pub mod Bodies
pub mod Maps
pub mod Newest
