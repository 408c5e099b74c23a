pub mod ExactLaws
pub mod ValidLaws
pub mod DecidedLaws
