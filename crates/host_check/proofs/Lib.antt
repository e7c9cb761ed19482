pub mod ImageBytesLemmas
pub mod ImageLemmas
pub mod LegalLemmas
pub mod OrderLemmas
pub mod RunLemmas
pub mod SessionLemmas
