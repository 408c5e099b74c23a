pub mod Listed
pub mod Answered
