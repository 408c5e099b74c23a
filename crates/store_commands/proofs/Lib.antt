pub mod Cuts
pub mod Numbers
pub mod Verbs
pub mod Windows
