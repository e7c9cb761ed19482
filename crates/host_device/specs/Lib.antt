-- What is defined here, by file.
--   Answers EndsAs: how the cache's call ended; for want of memory it didn't fail, and a read ..
--   Answers step_outcome: how a call ended that wasn't refused memory
--   Answers answered: the answer of a step that is entered
--   Answers step_answer: the answer of the step
--   Answers stored_of: what is entered of a read
--   Answers change_by
--   Answers changes_by: the change that is to be entered, and none for want of memory
--   Answers step_by
--   Answers step_entry: the entry of a step for this owner over these bytes
--   CacheSteps CallsCache: The cache kept to this rule, whatever the step answered
--   CacheSteps HasContentBy: these changes made the new content of the old one
--   CacheSteps GivesContent: a read that didn't fail gave the content
--   CacheSteps AreGiven: so did each of these reads that didn't fail
--   Calls IsCacheCall: the call that the op names
--   Crashes CrashesLeave: These calls lead from the first state to the second, and P holds of ..
--   Entries IsOnDisk: a flush is of no block, any other step of a block of the disk
--   Entries IsPiece: a read and a write have so many bytes
--   Entries entry_bytes: the bytes of an entry: what a read gave, unless it failed, and what a ..
--   Entries step_made: the entry of a step over these bytes
--   Entries answer_alone: the answer of a read without the bytes that it gave
--   Entries entries_added: the entries that a step adds, by its answer: one, but none for want ..
--   Faults faulted_count: how many of these steps failed
--   Faults RoseBy: the count rose so many times at least, or stands at its last value
--   Laws CrashInsideStep: Over a state that keeps a history, a crash before, between, inside or ..
--   Laws CrashAfterFlush: What a crash right after a flush that didn't fail leaves is the content
--   Seen cache_of
--   Seen disk_of: the disk as it is
--   Seen shape_of
--   Seen opening_of: the disk that the device began with
--   Seen fixed_of: what never changes of a device
--   Seen steps_of: the entries, oldest first, and how many there is room for in all
--   Seen history_of: the entries as changes of the image
--   Seen image_of: the image that the device began with, where the disk tells
--   Seen KeepsHistory: What a device keeps over a disk that tells: its history is legal, the ..
--   Seen IsStep: The cache was called as the op names, and no more, whatever the step answered
--   Seen LosesNothing: what a crash leaves is the content, in every block
pub mod Answers
pub mod CacheSteps
pub mod Calls
pub mod Crashes
pub mod Entries
pub mod Faults
pub mod Laws
pub mod Seen
pub use Answers.{EndsAs, step_outcome, answered, step_answer, step_by, step_entry}
pub use CacheSteps.{CallsCache, HasContentBy, AreGiven}
pub use Calls.{IsCacheCall}
pub use Crashes.{CrashesLeave}
pub use Entries.{IsOnDisk, IsPiece, entry_bytes, step_made, answer_alone, entries_added}
pub use Faults.{faulted_count, RoseBy}
pub use Laws.{CrashInsideStep, CrashAfterFlush}
pub use Seen.{cache_of, disk_of, shape_of, opening_of, fixed_of, steps_of, history_of, image_of}
pub use Seen.{KeepsHistory}
pub use declared.cache_calls.Stored.{Stored}
pub use declared.device.Device.{Device}
pub use declared.error.StepError.{StepError}
pub use declared.error.StepError.TheVariants.{Fault, Oom}
pub use declared.fixed.DeviceFixed.{DeviceFixed}
pub use declared.steps.Owner.{Owner}
