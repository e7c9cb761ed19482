-- What is defined here, by file.
--   Asks asks_from: the steps that a transfer asks for from place k on, for `left` blocks
--   Asks flush_of: the flush that comes after n blocks, where one is asked for
--   Asks asks_on: what is asked for from block k on, of as many as the request names
--   Asks due_below: the answers due to the first n records
--   Asks ended_after: how a record that asked for n steps ended
--   Carried IsRecordCarried: a request with this row is carried out by these steps
--   Carried IsCarriedBy: record i is
--   Counting counts_from: whether the numbers are n, n + 1 and so on
--   Counting is_end_for
--   Counting ends_as: whether the log has one end, its last event
--   Session session_with
pub mod Asks
pub mod Carried
pub mod Counting
pub mod Session
pub use Asks.{asks_from, flush_of, asks_on, due_below, ended_after}
pub use Carried.{IsRecordCarried, IsCarriedBy}
pub use Counting.{counts_from, is_end_for, ends_as}
pub use Session.{session_with}
