pub use Rattle.byte_fields.specs.declared.parts
pub mod Lines
pub mod Requests
pub mod Replies
pub mod Limits
