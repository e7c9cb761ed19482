-- What is defined here, by file.
--   BadScript bad_text
--   BadScript unplayed: `run disk.img` on this text: the disk wasn't touched
--   BadScript BadScriptIsTold
--   Crash in_room
--   Crash sent
--   Crash done
--   Crash log
--   Crash ended_well
--   Crash session
--   Crash image
--   Crash step
--   Crash steps
--   Crash report
--   Crash left
--   Crash CrashKeepsFlushed
--   Drive cells: a block with the same byte all over
--   Drive four: a number below 256 in four bytes and in eight, the lowest first
--   Drive eight
--   Drive header: The header in block 1: signature, revision, size and CRC; where it stands, ..
--   Drive array: The entry: its type and its id, blocks 3 to 4, no attributes, the name a
--   Drive image_of: with these bytes in the two blocks of the partition
--   Drive image
--   Endings write_by: a write of one block, of group 3: a member, the last one, or, without the ..
--   Endings last_end: the last of two members ended so
--   Endings group_end: and their group, of which the first had failed, after a front that is longer
--   Endings EndingsAreAsWritten
--   ForcedWrites forced_log: a write with the bit that forces it
--   ForcedWrites forced_buffer
--   ForcedWrites forced_session
--   ForcedWrites own_flush: its flush, after its one block
--   ForcedWrites forced_write
--   ForcedWrites never_flushed: it was answered 0, and made no flush
--   ForcedWrites flushed_first: it made its flush before the block
--   ForcedWrites flushed_by_another: the flush that was made is another session's
--   ForcedWrites ForcedWritesAreKept
--   Headline WasGathered: The one thing that isn't computed: that the report was gathered from ..
--   Headline untelling: `run --dry disk.img` on a disk that tells nothing, which hands out this ..
--   Headline dry_scene
--   Headline copy_in
--   Headline RunHasHeadline
--   Lines RefusalsHaveLines
--   LostSteps failed_log
--   LostSteps failed_buffer
--   LostSteps failed_session
--   LostSteps failed_write
--   LostSteps flushed_early
--   LostSteps LostStepsAreRefused
--   Missing failed: a write of byte 1 to block 0 that failed, and a flush that failed
--   Missing FlushedPartsExclude
--   NoTable scene_on: `run disk.img` on an image of these blocks, which was only read
--   NoTable bare: one block, which has no place for a header
--   NoTable untold: a disk that tells nothing, with so many blocks, to be written or to be read ..
--   NoTable dry_on: `run --dry disk.img` on such a disk, which hands out this copy
--   NoTable list_on: `list disk.img` on such a disk
--   NoTable NoTableIsTold
--   Opened read: the bytes of a read of two blocks into buffer 1, with reqid 20
--   Opened lines: a session that attaches, fills, reads, waits and shows
--   Opened plans: and one that does nothing
--   Opened alpha
--   Opened beta
--   Opened OpensSessions
--   PlayLines answer: the answer to the read: status 0, its reqid, no group, one record
--   PlayLines log
--   PlayLines PlaysLines
--   Reports EndsWith: a run that closed so ends with the status
--   Reports NeverEndsWith: it doesn't
--   Reports StatusesComeWithReports
--   Run in_room
--   Run script_text
--   Run record_of: a record on this buffer, from this page on, and the first block of the partition
--   Run write
--   Run flush
--   Run read
--   Run plans
--   Run answer: the answer to one record that ended well
--   Run log
--   Run ended_well
--   Run by: what a hand did; the client has number 2, the worker that took the records 1
--   Run buffer: the history of the buffer, where the read gave these bytes
--   Run step: the one step of record i
--   Run steps
--   Run session_on: the session of this number, on the partition of this number
--   Run report_with: a report of these sessions and their steps, with a closing flush that ..
--   Run partition
--   Run report
--   Run printed
--   Run disk_seen: the disk, which tells its content or doesn't, before and after its image was ..
--   Run playing
--   Run scene: `run disk.img` on a disk that tells or doesn't, on a source of this text, which ..
--   Run written: the block that was written is durable, and nothing is pending
--   Run unsynced: it is pending still
--   Run disk_in: the disk that was played on, where it tells, in this state
--   TableTexts id: sixteen bytes that differ
--   TableTexts TablesHaveTheirText
--   Words base
--   Words run_with: the meaning of these words behind `run base.img`
--   Words load_words
--   Words list_words
--   Words make_words
--   Words WordsAskForRuns
--   WrongEnds here
--   WrongEnds cut_short: the first n bytes of the text were put
--   WrongEnds to_be_cut: the words asked that the closing flush be left out
--   WrongEnds to_be_dry: they asked for a copy
--   WrongEnds untold_with: on a disk that tells nothing, which is left with so many blocks, to ..
--   WrongEnds WrongEndsAreRefused
--   WrongRuns another_text: a script that fills the page with another byte
--   WrongRuns run
--   WrongRuns with_log: the same session with another log
--   WrongRuns two_answers: two answers to the write
--   WrongRuns no_answer: the answer to the read never came, though the session drained
--   WrongRuns step_outside: the write went to the block of the table's array
--   WrongRuns stale_session: the read gave what stood there before, and the buffer got that
--   WrongRuns stale_read
--   WrongRuns on_range: the session is on this range
--   WrongRuns shared_block: two sessions, of which the second is on the last block of the first
--   WrongRuns two_ranges: two sessions on one partition, of which the second has its last block ..
--   WrongRuns WrongRunsAreRefused
pub mod BadScript
pub mod Drive
pub mod Endings
pub mod Headline
pub mod Lines
pub mod LostSteps
pub mod ForcedWrites
pub mod NoTable
pub mod Reports
pub mod Run
pub mod TableTexts
pub mod Words
pub mod WrongEnds
pub mod WrongRuns
pub mod Crash
pub mod PlayLines
pub mod Missing
pub mod Opened
pub use BadScript.{bad_text, unplayed, BadScriptIsTold}
pub use Drive.{cells, header, image_of}
pub use Endings.{EndingsAreAsWritten}
pub use ForcedWrites.{ForcedWritesAreKept, flushed_by_another, flushed_first, forced_session}
pub use ForcedWrites.{forced_write, never_flushed}
pub use Headline.{WasGathered, dry_scene, copy_in, RunHasHeadline}
pub use Lines.{RefusalsHaveLines}
pub use LostSteps.{failed_log, failed_session, failed_write, flushed_early, LostStepsAreRefused}
pub use NoTable.{scene_on, bare, dry_on, list_on, NoTableIsTold}
pub use Reports.{StatusesComeWithReports}
pub use Run.{script_text, write, flush, session_on, partition, printed, scene, written, unsynced}
pub use Run.{disk_in}
pub use TableTexts.{TablesHaveTheirText}
pub use Words.{WordsAskForRuns}
pub use WrongEnds.{here, cut_short, to_be_cut, to_be_dry, untold_with, WrongEndsAreRefused}
pub use WrongRuns.{another_text, with_log, two_answers, no_answer, step_outside, stale_session}
pub use WrongRuns.{stale_read, on_range, shared_block, two_ranges, WrongRunsAreRefused}
pub use Crash.{session, left, CrashKeepsFlushed}
pub use PlayLines.{PlaysLines}
pub use Missing.{failed, FlushedPartsExclude}
pub use Opened.{OpensSessions}
