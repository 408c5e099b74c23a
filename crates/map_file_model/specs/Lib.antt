pub mod Maps
pub mod Body
pub mod Reading
pub mod Laws
pub mod ExampleBodies
