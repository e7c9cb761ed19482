-- What is defined here, by file.
--   Hands IsHandAt: hand n at the session with this shared part, whose pages are of this pool; ..
--   Hands IsSameHand: the same hand at another time, outside both books
--   Plain sent_as: record i of a log
--   Plain log_of: What a client that may send so many records logs of these things, after it ..
--   Plain end_under: how a record with this verdict ends, where nothing is carried out
--   Plain verdict_next: the plain verdict on a record that is taken after these
--   Plain IsPlainEnd: the record ends as the plain verdict has it, and stands on the list
--   Plain IsPlainEndOr: so it is, or memory lacked for it, and the record ends with NoMemory
--   Plain IsEndBy: the record ends as the judge has it, who stays the same; its own end is that ..
--   RightUsed MaySettle: an unused right for record i in group g, where there is one
--   RightUsed HasSettled: the right was used, with this end
--   RightUsed HaveSettled: where there is a right it was used
--   Tasks IsOwnOpen: The hand took it so, it doesn't wait for pins, and the hand hasn't told ..
--   Tasks IsToDo: the hand is to end this record; the history is that of the intake, as far as ..
--   Tasks IsTakenToDo: what was taken is to be done
--   Tasks taken_with: What becomes of an accepted record: a close that comes without pages ..
pub mod Hands
pub mod Plain
pub mod RightUsed
pub mod Tasks
pub use Hands.{IsHandAt, IsSameHand}
pub use RightUsed.{HaveSettled}
pub use Tasks.{IsOwnOpen, IsToDo, IsTakenToDo, taken_with}
pub use declared.task.Taken.{Taken}
pub use declared.task.Task.{Task}
