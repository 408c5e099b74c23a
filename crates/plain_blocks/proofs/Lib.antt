pub mod Loops
pub mod OldLoops
