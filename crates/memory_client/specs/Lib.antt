-- What is defined here, by file.
--   Played IsPlayed
--   Played has_page: the entry gives a buffer with this block
pub mod Played
pub use Played.{has_page}
