-- What is defined here, by file.
--   Ended changes_blocks: whether a request of this kind changes blocks
--   Ended HasSucceeded: record i asked for this, was taken and ended well
--   Ended HasSurvived: Block b, which record i wrote or trimmed, has after a crash the bytes of ..
--   Ended KeepsEnded: Where the answer to a write or trim was had before a flush was sent, by ..
--   Ended EndedWritesSurvive: of a lawful report, where what was flushed has survived
--   Forced KeepsOwnFlushed: Once a record's own flush is among these steps, each block that a ..
--   Forced KeepsForcedAtEachMoment: So it is at every moment: once the first so many steps of ..
--   Forced OwnFlushesKeep: of every lawful report
--   Forced IsForcedWrite: record i is a forced write that was answered 0
--   Forced KeepsForced: Each block of each forced write that was answered 0 was written, and ..
--   Forced ForcedWritesSurvive: in each image that a crash may leave after a lawful run
--   Survival WroteBlock: The step at this place wrote or trimmed block b for record i of a ..
--   Survival WasFlushed: Among these steps is the flush that record i of a session asked for, ..
--   Survival WerePutSince: These are the bytes that a step on block b put there which is not ..
--   Survival KeepsFlushed: In what a crash leaves once these steps are made has survived what ..
--   Survival KeepsAtEachMoment: So it is at every moment: once the first so many steps of the ..
--   Survival FlushedWritesSurvive: of every lawful report
pub mod Ended
pub mod Forced
pub mod Survival
pub use Ended.{changes_blocks, HasSucceeded, HasSurvived, KeepsEnded, EndedWritesSurvive}
pub use Forced.{KeepsOwnFlushed, KeepsForcedAtEachMoment, OwnFlushesKeep, IsForcedWrite}
pub use Forced.{KeepsForced, ForcedWritesSurvive}
pub use Survival.{WroteBlock, WasFlushed, WerePutSince, KeepsFlushed, KeepsAtEachMoment}
pub use Survival.{FlushedWritesSurvive}
