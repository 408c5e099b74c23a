pub mod Orders
pub mod Slots
pub mod Growing
pub mod Sizes
pub mod Tries
pub mod Bodies
