pub use Rattle.line_model.specs.Lines
pub use Rattle.line_model.specs.Replies
pub use Rattle.line_model.specs.Requests
pub mod Asks
pub mod Cutting
pub mod Puts
pub mod Spoken
pub mod Verbs
