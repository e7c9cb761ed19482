pub mod ChangeLemmas
pub mod DiskLemmas
pub mod KeptLemmas
pub mod Prefixes
pub mod Places
