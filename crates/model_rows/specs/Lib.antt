-- What is defined here, by file.
--   Cache two: blocks 3 and 1 in the list, block 2 the victim, over four blocks of zeros
--   Cache zeros
--   Cache held
--   Cache filled: dirty entries of the first n blocks, block 0 the least recently used
--   Cache CacheIsAsWritten
--   Clients fronts: ---- a course
--   Clients answer: the answer to the read, which ended after three entries of the device
--   Clients other: an answer to a record that was never sent
--   Clients log
--   Clients buffers
--   Clients attaching
--   Clients sending
--   Clients receiving
--   Clients filling
--   Clients looking
--   Clients acts
--   Clients landed: ---- what keeps a session from being closed
--   Clients ClientsAreAsWritten
--   Disk image
--   Disk disk: three writes are pending: to block 1, to block 0 and to block 1 again
--   Disk history: a write, a flush, a failed flush, a trim, a failed write, a read
--   Disk DisksAreAsWritten
--   Frames words: the frames 0, 2 and 65 are taken
--   Frames seat: a seat that asks for two frames
--   Frames won
--   Frames at_work
--   Frames refused: a claim in a pool of three frames that got one of two
--   Frames FramesAreAsWritten
--   Groups first
--   Groups second
--   Groups third
--   Groups next: a member of the number's next instance, and one of another number
--   Groups other
--   Groups admitted
--   Groups first_row
--   Groups second_row: it settled last: the word left had one unsettled member, the mark, and ..
--   Groups third_row
--   Groups back
--   Groups end
--   Groups GroupsAreAsWritten
--   Intakes part
--   Intakes asked: a request for one block, from the second page of a buffer
--   Intakes sent: it is sent once the client knows one entry of the buffers' history
--   Intakes buffers: ---- what was done to the buffers: the client's number is 1, that of the ..
--   Intakes read: ---- the records taken
--   Intakes stray
--   Intakes close
--   Intakes ended: ---- the intake's history
--   Intakes stray_answer
--   Intakes course: the close of no buffer ended, with its answer kept; then the read did
--   Intakes flushes: ---- members a group of two, a lone flush, and the number used again
--   Intakes IntakesAreAsWritten
--   LawfulSessions SessionsAreLawful
--   MemoryDisks fails: the second write fails with nothing done, though it is named again, and ..
--   MemoryDisks bytes
--   MemoryDisks image
--   MemoryDisks MemoryDisksAreAsWritten
--   Partitions entry
--   Partitions layout
--   Partitions PartitionsAreServed
--   Parts part
--   Parts send: a record sent: command, reqid, group, buffer, length, and the two offsets
--   Parts got: an answer received
--   Parts accepted
--   Parts refused
--   Parts cells
--   Parts step: a step of session 1
--   RealisticScript text
--   RealisticScript write
--   RealisticScript plans
--   RealisticScript RealisticScriptIsPlayed
--   Records write: a write that closes group 5
--   Records write_bytes
--   Records unknown: opcode 9 with bit 0x100
--   Records answer: the answer to three requests of group 3, out of range
--   Records answer_bytes
--   Records RecordsAreAsWritten
--   ReportFields with_sessions: the report with these sessions
--   ReportFields on_partition: the same with so many blocks, its session on this partition and ..
--   ReportFields its_block: the one block of the only partition of the small table, and one ..
--   ReportFields beside
--   ReportFields run
--   ReportFields ImageIsNeeded
--   ReportFields RunIsNeeded
--   ReportFields ScriptIsNeeded
--   ReportFields EachReportFieldIsNeeded
--   ReportTexts failed: the answer to one record, which failed
--   ReportTexts ReportsAreAsWritten
--   Reports in_room
--   Reports entry
--   Reports session_report: the report of a session, of this number and on the partition of ..
--   Reports report
--   Reports image
--   Reports write
--   Reports plan: what the client was asked to do
--   Reports empty
--   Rings envelope: envelopes of these numbers
--   Rings first
--   Rings second
--   Rings slip: slips for the records 0, 1 and 2
--   Rings a
--   Rings b
--   Rings c
--   Rings history: sender 0 pushed a, sender 1 pushed b and c
--   Rings RingsAreAsWritten
--   Scripts TextsAreScripts
--   SessionFields misnumbered: its one record is numbered 7
--   SessionFields row_of_none: two rows for one record, the second as for a record of zeros
--   SessionFields goes_on: a drain that came before the record
--   SessionFields hidden_fault: a faulted flush that ended well
--   SessionFields step_of_none: a step for a record that was never taken
--   SessionFields another_lift: the buffer's first page was filled with one byte, and the ..
--   SessionFields pinned_after_the_close: the read pins its buffer after the buffer was closed
--   SessionFields TakingIsNeeded
--   SessionFields CarryingIsNeeded
--   SessionFields AnswersAreNeeded
--   SessionFields BuffersAreNeeded
--   SessionFields OrderIsNeeded
--   SessionFields EachSessionFieldIsNeeded
--   Sessions failed_group: ---- the first failure of a group answers it
--   Sessions group_again: ---- a group number used again, answered in the other order
--   Sessions open_group: ---- a group that is never closed has no answer
--   Sessions closed_buffer: ---- a buffer that was closed is attached no more
--   Sessions read_and_close
--   Sessions late_attach: ---- a buffer is attached only for records sent after its attach
--   Sessions faults: ---- a write, a flush that faults, a read that faults at its second block
--   Sessions short: ---- a write that is refused memory before its second step, after it lifted ..
--   Sessions twins: ---- two records of one reqid in flight: one answer doesn't tell which was ..
--   Sessions aborted: ---- an abort: two of three records were taken, and one answer received
--   Sessions untaken_close: ---- an abort after a read was answered and a close was sent, but ..
--   Sessions filled
--   Sessions realistic
--   Table header_block
--   Table array_block
--   Table image
--   Table TableIsRead
--   Turns Entry
--   Turns maker
--   Turns history: 0 made two entries, and 1 made one between them
--   Turns seatless: a book with three seats, of which none was made yet
--   Turns seat_0: the seat 0 has drawn ticket 4, the seat 1 has the turn
--   Turns seat_1
--   Turns views
--   Turns TurnsAreAsWritten
--   Verdicts asked: a request with this command and group, for so many blocks, from a page of ..
--   Verdicts on: the verdict where the buffer has 8 pages, and where it isn't attached
--   Verdicts on_none
--   Verdicts EachCheckRefuses
--   Verdicts FirstCheckDecides: where two checks fail the first decides
--   Verdicts VerdictsAreAsWritten
--   Words base
--   Words plain_run
--   Words WordsAreCommands
--   WordsOfTexts BytesArePrinted
--   WrongReports with_attach_of: frames ran short though all attaches asked for 4,096 at most; ..
--   WrongReports past_it: its session, on a range that goes past the image
--   WrongReports WrongReportsAreRefused
--   WrongSessions put_in: xs with x before element n
--   WrongSessions without: xs without element n
--   WrongSessions WrongSessionsAreRefused
--   WrongTables changed: the header with another byte at this offset
--   WrongTables backup_block: with another place of its own, and its right CRC
--   WrongTables damaged: the primary header is gone, and the backup stands in the last block
--   WrongTables array: an array of so many entries, from this block on
--   WrongTables WrongHeadersAreRefused
--   WrongTables WrongArraysAreRefused
--   WrongTables BackupIsTaken
--   WrongTables WrongTablesAreRefused
pub mod Cache
pub mod Clients
pub mod Disk
pub mod Frames
pub mod Groups
pub mod Intakes
pub mod LawfulSessions
pub mod MemoryDisks
pub mod Partitions
pub mod Parts
pub mod RealisticScript
pub mod Records
pub mod ReportFields
pub mod ReportTexts
pub mod Reports
pub mod Rings
pub mod Scripts
pub mod SessionFields
pub mod Sessions
pub mod Table
pub mod Turns
pub mod Verdicts
pub mod Words
pub mod WordsOfTexts
pub mod WrongReports
pub mod WrongSessions
pub mod WrongTables
pub use Cache.{CacheIsAsWritten}
pub use Clients.{attaching, sending, receiving, filling, looking, acts, ClientsAreAsWritten}
pub use Disk.{disk, DisksAreAsWritten}
pub use Frames.{FramesAreAsWritten}
pub use Groups.{first_row, second_row, third_row, end, GroupsAreAsWritten}
pub use Intakes.{IntakesAreAsWritten}
pub use LawfulSessions.{SessionsAreLawful}
pub use MemoryDisks.{MemoryDisksAreAsWritten}
pub use Partitions.{layout, PartitionsAreServed}
pub use RealisticScript.{RealisticScriptIsPlayed}
pub use Records.{RecordsAreAsWritten}
pub use ReportFields.{on_partition, its_block, beside, ImageIsNeeded, RunIsNeeded, ScriptIsNeeded}
pub use ReportFields.{EachReportFieldIsNeeded}
pub use ReportTexts.{ReportsAreAsWritten}
pub use Reports.{report}
pub use Rings.{a, b, c, RingsAreAsWritten}
pub use Scripts.{TextsAreScripts}
pub use SessionFields.{TakingIsNeeded, CarryingIsNeeded, AnswersAreNeeded, BuffersAreNeeded}
pub use SessionFields.{OrderIsNeeded, EachSessionFieldIsNeeded}
pub use Sessions.{failed_group, group_again, open_group, closed_buffer, read_and_close, late_attach}
pub use Sessions.{faults, short, twins, aborted, untaken_close, realistic}
pub use Table.{header_block, TableIsRead}
pub use Turns.{maker, TurnsAreAsWritten}
pub use Verdicts.{EachCheckRefuses, FirstCheckDecides, VerdictsAreAsWritten}
pub use Words.{WordsAreCommands}
pub use WordsOfTexts.{BytesArePrinted}
pub use WrongReports.{WrongReportsAreRefused}
pub use WrongSessions.{WrongSessionsAreRefused}
pub use WrongTables.{backup_block, damaged, WrongHeadersAreRefused, WrongArraysAreRefused}
pub use WrongTables.{BackupIsTaken, WrongTablesAreRefused}
