pub mod CopyLemmas
pub mod ImageLemmas
pub mod PlaceLemmas
pub mod ReadLemmas
