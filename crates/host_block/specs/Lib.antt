-- What is defined here, by file.
--   Changes Change: One entry of a history: what was done, to which block, with which bytes, ..
--   Changes puts_bytes: whether it puts bytes into a block
--   Changes is_read: whether it reads
--   Changes is_flush: whether it makes what was written durable
--   Changes changes_block: whether it wrote or trimmed block b
--   Changes put_by: the bytes that a write or a trim of a block of this size puts there
--   Changes changed: what these changes, in order, make of block b of this size, where these ..
--   Changes content: the content of block b after the first p changes
--   Changes IsLegal: each read that didn't fail gave the content at its place
--   Changes is_barrier: whether it is a flush that didn't fail
--   Changes place_from: the place after the last such flush, counted from `at`, or `last` where ..
--   Changes barrier: the place after the last flush that didn't fail, 0 where there is none
--   Crash IsVersion: these bytes are a version of block b that the last flush and the changes ..
--   Crash IsCrashImage: a crash after this history may leave these blocks, each a version of ..
--   Crash Keeps: whatever a crash of this state may leave in a block is such a version
--   Crash IsCurrent: reads give the content after the whole history
--   Disk IsImage: all blocks of an image have this length
--   Disk DiskState: the durable blocks, and the writes that no sync has made durable yet, the ..
--   Disk block_at: the bytes of block b, none past the end
--   Disk overwritten: what these writes, in order, make of block b, where these bytes stood there
--   Disk read_of: what a read of block b gives: the last pending write to it, else the durable ..
--   Disk settled: the blocks after these writes, in order
--   Disk fresh: a disk as an attach leaves it
--   Disk added: with one more pending write
--   Disk part_synced: with the first n pending writes made durable
--   Disk synced: with all pending writes made durable
--   Disk Outcome: How a call ends: with success, with a fault of the disk, or for want of memory
--   Disk DiskCall: One call of a disk
--   Disk Leads: A call leads from the first state to the second
--   Disk LeadAll: These calls, in order, lead from the first state to the second
--   Disk IsCandidate: What a crash may leave in block b
--   Disk IsCrashOf: A crash may leave this image, each block chosen by itself
--   Disk IsCrashInside: A crash inside a call that leads from the first state to the second may ..
--   Disk picked: the n-th of these writes to block b, counted from 1, and the last where they ..
--   Disk IsPicked: The crash image that these picks choose, a pick for each block, 0 where ..
--   Disk IsOfSize: Every block, durable or pending, has this size, and every pending write lies ..
--   Laws IsFaithful: the call writes nothing but the content after the whole history
--   Laws AreFaithful: so does each of these calls
--   Laws LeadThrough: these calls lead from the first state to the second, and P holds before ..
--   Laws WrittenReads: A read gives the bytes of a write to its block that succeeded, and what ..
--   Laws SyncedReads: A sync, however it ends, changes no read
--   Laws SyncedIsDurable: After a sync that succeeds the durable blocks are what reads gave, ..
--   Laws PickedIsCrash: What picks choose is left by some crash
--   Laws CallKeeps: From a state that keeps the history a faithful call leads to one that does, ..
--   Laws RunKeeps: Each state along a run of faithful calls keeps the history
--   Laws FlushKeeps: Where reads give the content after the whole history, a sync that succeeds ..
--   Laws ChangeKeeps: A state that keeps the history also keeps it with any change more that is ..
--   Laws CrashOfKept: What a crash of a state that keeps the history leaves is a crash image of ..
--   Laws CrashInsideCall: So is what a crash inside a faithful call of such a state leaves, ..
--   Lists IsPrefix: the second list begins with the first
--   Range IsWithin: n blocks from offset o on lie within c blocks
--   Room WithRoom: a list, and how many elements it has room for in all
--   Room spare_of: how many more elements fit
--   Size IsBlockSize: a block may have this many bytes
pub mod Changes
pub mod Crash
pub mod Disk
pub mod Laws
pub mod Lists
pub mod Range
pub mod Room
pub mod Size
pub use Changes.{Change, puts_bytes, is_read, is_flush, changes_block, put_by, changed, content}
pub use Changes.{IsLegal, is_barrier, place_from, barrier}
pub use Crash.{IsVersion, IsCrashImage, Keeps, IsCurrent}
pub use Disk.{IsImage, DiskState, block_at, overwritten, read_of, settled, fresh, added}
pub use Disk.{part_synced, synced, Outcome, done, failed, refused, DiskCall, read, write, sync}
pub use Disk.{Leads, LeadAll, IsCandidate, IsCrashOf, IsCrashInside, picked, IsPicked, IsOfSize}
pub use Laws.{AreFaithful, LeadThrough, WrittenReads, SyncedIsDurable, CallKeeps, RunKeeps}
pub use Laws.{FlushKeeps, ChangeKeeps, CrashOfKept, CrashInsideCall}
pub use Lists.{IsPrefix}
pub use Room.{WithRoom}
pub use Size.{IsBlockSize}
pub use declared.op.Op.{Op}
pub use declared.op.Op.TheVariants.{Flush, Read, Trim, Write}
