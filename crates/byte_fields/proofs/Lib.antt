pub mod NumberLemmas
pub mod FieldLemmas
pub mod FaultLemmas
pub mod PushLemmas
