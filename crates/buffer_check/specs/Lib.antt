-- What is defined here, by file.
--   Entries AreOwed: these are the entries that a request with this row and these steps has to have
--   Entries HasEntriesBy
--   Owners owner_by
--   Owners was_closed_by: whether the record that closes the buffer was sent in these events, ..
--   Owners next_place: where the client's next entry after these events stands
--   Owners was_released_by
--   Owners is_answer_by
--   Owners is_used_by
--   Told sends_in: how many records an event sends
--   Told has_entry: whether an event has an entry
--   Told entry_at: the entry of an event, where n records were sent before
--   Told told_from
pub mod Entries
pub mod Owners
pub mod Told
pub use Entries.{AreOwed, HasEntriesBy}
pub use Owners.{owner_by, was_released_by, is_answer_by, is_used_by}
pub use Told.{sends_in, has_entry, entry_at, told_from}
