pub mod EntryLemmas
pub mod PlaceLemmas
pub mod SessionLemmas
pub mod ToldLemmas
