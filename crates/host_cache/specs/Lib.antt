-- What is defined here, by file.
--   Calls Rule: A rule ties what was held, the disk calls with their outcomes, how it ended, ..
--   Calls EndsEarly: the first rule doesn't succeed, and so ends the call
--   Calls GoesOn: the first rule succeeds, and the second follows
--   Calls Then
--   Calls victim_writes
--   Calls after_victim: its place is empty once it is written
--   Calls WritesVictim: The disk gets the victim, where there is one, which is gone once that ..
--   Calls victim_from: an entry that leaves the list becomes the victim where it is dirty
--   Calls with_room: without the last entry, the least recently used, where the list is full
--   Calls MakesRoom: Where the list is full its last entry leaves it; a dirty one becomes the ..
--   Calls put_lines
--   Calls PutsInFront: The entry of block b is put in front without a disk call; only want of ..
--   Calls clean_line
--   Calls dirty_line
--   Calls Finds: The block is in the list: its bytes are given and it moves to the front, with ..
--   Calls ReadsDisk: Block b is read from the disk
--   Calls Loads: A block that the list hasn't is read from the disk into a place in front, once ..
--   Calls GivesFound
--   Calls Gives
--   Calls IsRead
--   Calls Idles: Nothing is done
--   Calls RoomUnless: room is made for a block that the list hasn't
--   Calls MakesRoomFor
--   Calls Prepares: The victim is written, and room made for block b where it isn't in the list
--   Calls IsWrite
--   Calls IsTrim
--   Calls is_dirty
--   Calls dirty_at: the write that the disk lacks for block b, where there is one
--   Calls dirty_below: the writes that the disk lacks for the first n blocks, by rising block ..
--   Calls cleaned_below: the entries of the first n blocks are clean
--   Calls write_calls: calls that make these writes, and end in this way
--   Calls cleaned_at: the entry of block b is clean
--   Calls clean_lines
--   Calls Cleans: A dirty entry is written, and is clean once the write succeeded
--   Calls WritesAll: all dirty entries are written, and are clean
--   Calls StopsAt: the write of block b doesn't succeed; the dirty entries before it were ..
--   Calls WritesDirty: The dirty blocks go to the disk one by one, the lowest number first, and ..
--   Calls Syncs: The disk is synced once
--   Calls IsFlush
--   Held Held: the list, whose front was used last, and the victim: a block out of the list ..
--   Held line_at: the entry of block b, where the list has one
--   Held over_line: an entry's bytes, else those below it
--   Held over_victim: the victim's bytes where it is block b, else those below it
--   Held cached: the content of block b: the list's bytes, else the victim's, else those that a ..
--   Held in_front: the list with this entry of block b in front, in place of one that it may ..
--   Kept AreApart: no block stands twice in the list
--   Kept IsBlock: a block of the disk with a block's number of bytes
--   Kept IsCacheKept: No block stands twice among list and victim, the list isn't too long, and ..
--   Kept AreClean: of a clean entry the disk has the same bytes
--   Laws IsHeldOver: Over a state that keeps the history stands a cache whose content is that ..
--   Laws Survives: Each state along the disk calls of this rule keeps the history, however the ..
--   Laws ReadSurvives
--   Laws WriteSurvives
--   Laws FlushSurvives
--   Laws FlushIsKept: A flush that succeeds leaves a state that keeps the history with the ..
--   Made counted: the numbers of a disk after these calls, but for its faults
--   Made Made: These calls, and no other, led from the disk as it was to the disk as it is
--   Outcomes cache_error_of: what an error of the disk is to the caller of the cache
--   Outcomes cache_error_outcome
--   Outcomes cache_outcome
--   Scan lesser
--   Scan nearer_of: the lesser of the block found so far and this one, where it is dirty and ..
--   Scan first_dirty: the first dirty block that isn't below `from`
--   Seen disk_of
--   Seen shape_of
--   Seen held_of
--   Seen content_of: the content of block b, where the disk tells
--   Seen HasSameContent: no block has another content
--   Seen HasWritten: block b has these bytes, and no other block has another content
--   Seen HasFaulted: the disk's count of faults rose
--   Seen Runs: The cache kept to this rule, and its disk was called so and no more
pub mod Calls
pub mod Held
pub mod Kept
pub mod Laws
pub mod Made
pub mod Outcomes
pub mod Scan
pub mod Seen
pub use Calls.{Rule, Then, victim_writes, after_victim, WritesVictim, victim_from, with_room}
pub use Calls.{MakesRoom, put_lines, PutsInFront, clean_line, dirty_line, Finds, ReadsDisk, Loads}
pub use Calls.{GivesFound, Gives, IsRead, RoomUnless, MakesRoomFor, Prepares, IsWrite, is_dirty}
pub use Calls.{dirty_at, dirty_below, cleaned_below, write_calls, cleaned_at, clean_lines, Cleans}
pub use Calls.{WritesDirty, Syncs, IsFlush}
pub use Held.{line_at, over_line, over_victim, cached, in_front}
pub use Kept.{AreApart, IsBlock, IsCacheKept, AreClean}
pub use Laws.{IsHeldOver, ReadSurvives, WriteSurvives, FlushSurvives, FlushIsKept}
pub use Made.{counted}
pub use Outcomes.{cache_error_outcome, cache_outcome}
pub use Scan.{lesser, nearer_of, first_dirty}
pub use Seen.{disk_of, shape_of, held_of, content_of, HasSameContent, HasFaulted, Runs}
pub use declared.cache.Cache.{Cache}
pub use declared.error.CacheError.{CacheError}
pub use declared.error.CacheError.TheVariants.{Disk, Oom}
pub use declared.line.Line.{Line}
pub use declared.line.Victim.{Victim}
