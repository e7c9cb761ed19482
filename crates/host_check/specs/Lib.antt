-- What is defined here, by file.
--   Had is_received_by: whether the answer of owing record o was received in these events as ..
--   Had had_by
--   Had some_of: whether one of the first n + 1 of these holds
--   Had entries_at: the places of the entries that belong to record i, and of its steps
--   Had steps_at
--   Had follows_by: what a record did, with its steps and entries at these places, stands ..
--   Had precedes_by: it stands before the entry of event n, if its answer was had and the event ..
--   Had client_by: what the client did before it sent record i stands before what that record did
--   Had is_ordered_after: the order rule for an answer that was had in these prefixes, and a ..
--   Had had_of: the prefixes of the log in which the answer to record r was had
--   Had is_ordered_by: the order rule for the answer to record r
--   Had is_order_kept: the order rule for all records that were sent
--   ImageBytes HasNoTable
--   ImageBytes IsTableIn
--   Legal reads_after: whether a change after these is no good read, or has the content of its ..
--   Legal reads_content: whether the change at this place is
--   Parts TellsSession: each part of the session holds where it is told
--   Parts TellsParts: each part of the run holds where it is told
pub mod Had
pub mod ImageBytes
pub mod Legal
pub mod Parts
pub use Had.{had_by, some_of, steps_at, follows_by, precedes_by, client_by, is_ordered_after}
pub use Had.{had_of, is_ordered_by, is_order_kept}
pub use ImageBytes.{HasNoTable, IsTableIn}
pub use Legal.{reads_after, reads_content}
pub use Parts.{TellsSession, TellsParts}
pub use declared.parts.RunParts.{RunParts}
pub use declared.parts.SessionParts.{SessionParts}
