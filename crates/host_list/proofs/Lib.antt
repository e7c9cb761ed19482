pub mod GuidLemmas
pub mod NameLemmas
pub mod ServedLemmas
