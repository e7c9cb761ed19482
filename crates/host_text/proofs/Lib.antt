mod PrintedLemmas
pub mod Putting
