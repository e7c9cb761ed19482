pub mod CountLemmas
pub mod CopyLemmas
pub mod FailLemmas
pub mod FlatLemmas
