-- What is defined here, by file.
--   Causes next_count: one more, but for a count that stands at its last value
--   Causes Rose: the count rose, or stands at its last value
--   Causes faults_after: the faults after this answer of an object that counts its errors and ..
--   Causes HasCause: the count never falls, and an error comes only where it rose
--   Copies joined_blocks: the bytes of these blocks, in order
--   Copies bytes_of: the bytes that reads of the first n blocks give, in order
--   Disks Shape: what is known of every disk, and stays from one attach to the next
--   Disks call_error_outcome: how a call ended, told by its answer
--   Disks call_outcome
--   Disks no_counts: the numbers of a disk that no call has touched yet
--   Disks read_counted: with one read more; likewise for a write and a sync
--   Disks write_counted
--   Disks sync_counted
--   Disks OnlyReads: Only reads were called: no write and no sync was counted, the faults never ..
--   Disks Calls: What a call does to the numbers: the reads, writes and syncs are those called ..
--   Disks OpensNone: No image was attached to be written: one can be written now only if one ..
--   Disks Attaches: What an attach at this size gives, to be written or to be read alone
--   Disks Reads: Where the disk tells, a read gives what was put into the block last, be it ..
--   Fails kind_number: a number for each kind
--   Fails names_call: whether this entry of the list is of the call of this kind and number
--   Fails part_listed: how much is done of a call, where the list names it as one that fails; ..
--   Flat cut: the first n blocks of this size
--   Flat image_of: the whole blocks of this size
--   Flat put_at: with one block put in its place
--   Flat put_all: with these blocks put in their places, in order
--   Laws FreshBytes: The bytes read from a disk that was just attached are those of its image
--   Laws FreshIsImage: The blocks that an attach gave are of the disk's size
--   Laws JoinedIsCut: Blocks of one size that were joined are cut apart into the same blocks
--   MemDisk opening_of: the bytes that it was made with
--   MemDisk held_by: its present content: its durable bytes with all waiting writes put in
--   MemDisk rest_of: the bytes behind its last whole block
--   MemDisk image_held: the blocks that an attach at this size gives, under any name
--   MemDisk shape_of
--   MemDisk state_of
--   MemDisk counts_of
--   MemDisk attaches_of: how often an attach was called
--   MemDisk fails_of: its list of failing calls
--   MemDisk never_fails_of: whether that list is empty
--   MemDisk IsDiskMadeOf: a disk of these bytes and this list of failing calls that no call has ..
--   MemDisk faults_counted: the faults after this answer: one more where the disk failed
--   MemDisk part_written: with a failing write of which so much is done
--   MemDisk FailsAsListed: The call fails exactly where it is listed
--   MemDisk WritesAsListed: A write fails only where it is listed, and succeeds only where it ..
--   MemDisk SyncsAsListed: A sync fails exactly where it is listed, and then makes the listed ..
--   MemSink sink_appended: the bytes that were appended
--   MemSink sink_faults
--   MemSink sink_room: how many more bytes fit
--   MemSink sink_fails: the numbers of its calls that fail
--   MemSink sink_calls: how often it was called
--   MemSink IsSinkMadeOf: an empty sink with this room and this list of failing calls that no ..
--   MemSink FailsToPut: the next call with this piece fails: it is listed, or nothing fits of a ..
--   MemSource source_left: the bytes that are left
--   MemSource source_faults
--   MemSource source_fails: the numbers of its calls that fail
--   MemSource source_calls: how often it was called
--   MemSource IsSourceMadeOf: a source of these bytes and this list of failing calls that no ..
--   Streams TakesAtMost
--   Streams Takes: where the source tells, `into` begins with the next n bytes, which are left ..
--   Streams PutsSome
--   Streams Puts: a sink that tells has the bytes that it took behind those from before, and ..
--   Waiting pairs_of: the writes as pairs of a block and its bytes
--   Waiting IsFitting: a write of one of this many blocks of this size
pub mod Causes
pub mod Copies
pub mod Disks
pub mod Fails
pub mod Flat
pub mod FlatShape
pub mod Laws
pub mod MemDisk
pub mod MemSink
pub mod MemSource
pub mod Streams
pub mod Waiting
pub use Causes.{next_count, Rose, HasCause}
pub use Copies.{joined_blocks, bytes_of}
pub use Disks.{Shape, read_counted, write_counted, sync_counted, OnlyReads, Calls}
pub use Fails.{kind_number, names_call, part_listed}
pub use Flat.{cut, image_of, put_at, put_all}
pub use FlatShape.{block_fits, length-cut, block_at-cut, cut_of_size}
pub use Laws.{FreshBytes, FreshIsImage, JoinedIsCut}
pub use MemDisk.{opening_of, state_of, counts_of, SyncsAsListed}
pub use Waiting.{pairs_of, IsFitting}
pub use declared.counts.Counts.{Counts}
pub use declared.disk.DiskError.{DiskError}
pub use declared.disk.DiskError.TheVariants.{Failed}
pub use declared.fails.CallKind.{CallKind}
pub use declared.fails.CallKind.TheVariants.{Sync}
pub use declared.fails.FailAt.{FailAt}
