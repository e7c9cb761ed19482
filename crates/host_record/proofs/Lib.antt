pub mod ByteLemmas
pub mod RequestLemmas
pub mod ResponseLemmas
