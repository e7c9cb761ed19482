-- What is defined here, by file.
--   Ending IsScriptOf: A script, which passes no limit: what was left in the source, where it ..
--   Ending SaysNoScript: why there is none
--   Ending IsItsScript: the script of a run
--   Ending IsPlayed: The script was played, by a server that was started with a session for ..
--   Ending IsNoScript: there is no script, and the error says why
--   Ending IsNoStart: there is a script, and the error says what of the image is the cause that ..
--   Ending IsRefused: the status is that of a refusal, which says its cause
--   Ending StandsThere: a script stands in the source, which tells, or is the one that is made; ..
--   Ending IsScenePlayable: There is a script, and the disk tells an image that isn't too ..
--   Ending IsDoneOrOutOfMemory: the run is done, or there was no memory for it
--   Ending IsComplete: Where the disk didn't fail no step is faulted, and where the sink didn't ..
--   Headline IsLawfulOn: the report is lawful for the image that the disk held
--   Headline OutlivesCrash: a crash of the disk leaves what the report's steps allow
--   Headline KeepsWhatWasFlushed: What was flushed has survived in what a crash of the disk ..
--   Headline KeepsWhatWasForced: What a forced write wrote that was answered 0 has survived in ..
--   Headline Headline: **The headline of a run.**
--   Listed Listing: What a list is called on, and what it leaves: the table that is asked for, ..
--   Listed listed_image: the image, as the disk held it
--   Listed PutsList: The text of a table on the disk's own blocks was put, which is the image's ..
--   Listed PutsLine: the line of the refusal was put
--   Listed RefusesList: The line was put, and the cause is the image, where the disk tells, and ..
--   Listed ListLeaves: what `list` leaves, by its status; no other status comes
--   Made IsPutStatus: a text was put, or the sink failed
--   Made IsMakeStatus: or there was no memory for it
--   Made made_text: the text of the generated script
--   Made PutsScript: Unless memory was refused, the text of the script was put, up to a failure ..
--   Played ranges_in: the blocks that the report's sessions had
--   Played IsPlayOf: The report is of a run that played these plans, and was gathered from a ..
--   Played HasNoFaults: no step of the report is faulted
--   Played IsOpenedThere: a copy opened with the image, where the disk tells
--   Played IsSiteOpened: the image is attached to the disk that was handed in: to be written ..
--   Played HasItsBlocks: a copy has as many blocks as the disk, whether or not that tells
--   Played LeavesPlayed: What a run leaves of the disk and of the copy, and what its report ..
--   Played LeavesUnplayed: What a run that is refused leaves of them
--   Played LeavesDisks: what is left of them, by a run or where none was played
--   Played HandsCopy: a copy is handed out exactly where its content is the cause
--   Played SaysCause: What an error says that refuses these plans
--   Played IsNoRun: What is left there where these plans weren't played, and why
--   Refusals start_status: the status of a run that has no start
--   Refusals refused_status: the status that the run ends with
--   Refusals limit_word: the word of a limit
--   Refusals refusal_line: the line of a status, with its line feed; none where a run with this ..
--   Runs IsRunOn: A script was played there, with this report: the disk that was played on ..
--   Runs RunLeaves: What a run on a script leaves, with this status and report
--   Scene Scene: What the words ask for; source, disk and sink as they were and as they are ..
--   Scene NoneFaulted: neither source nor disk nor sink failed
--   Scene Site: Where a script is played: the image's name and the size of its blocks, whether ..
--   Scene site_of
--   Scene image_at: the image, as the disk that was handed in held it
--   Scene PlayedDisk: A disk that was played on: whether it tells, the image that it held when ..
--   Scene opening_image: the blocks of a size that a copy opened with
--   Scene copy_or: it is the copy where there is one, else the disk that was handed in
--   Scene played_disk: the disk that was played on
--   Seen DiskSeen: Whether it tells its content, with what is attached; the blocks of an image ..
--   Seen disk_seen
--   Seen DiskFaulted: its count of faults rose
--   Seen WasRead: it was only read
--   Seen SourceSeen: Whether it tells its content, the bytes that are left there, and how often ..
--   Seen source_seen
--   Seen SourceFaulted: its count of faults rose
--   Seen SinkSeen: Whether it tells its content, the bytes that were appended, and how often it ..
--   Seen sink_seen
--   Seen SinkFaulted: its count of faults rose
--   Statuses run_status_number: the number of a status
--   Statuses played_status: the status of a run whose sessions began, by its closing flush and ..
--   Statuses IsEndStatus: such a status
--   Statuses HasRunReport: The report of a run comes with the statuses 0, 1 and 7, with 8 just ..
--   Statuses HasMade: no report, and a status of `make`
--   Statuses HasReport: a call that lists a table or makes a script has no report; each other ..
--   Statuses IsServedAs: what says that a server served a run comes with the report of that ..
--   Statuses IsContentStatus: the status tells of the content of an image
--   Statuses HandsOut: A copy is handed out with a report, and without one exactly where its ..
--   Words text_of: the text of a report, or its summary
--   Words said_by: what the words after the program's name mean
--   Words Making: the numbers of a script that is to be made
--   Words plans_made: the script that is made of them
--   Words Playing: A run: its image, the size of a block, workers beside the clients, elements ..
--   Words playing_by: a run on this image in this mode
--   Words playing_in: the run that words of this meaning ask for
--   Words reads_script: words of this meaning ask for a run on a script that is read
--   Words plays_on_disk: words of this meaning ask for a run on the disk itself
--   Words TableOf: the image and the size of a block of a table that is to be listed
--   Words listing_in: the table that words of this meaning ask for
--   Words making_in: the text of a script that words of this meaning ask for
--   Words IsMakeable: numbers of which a script can be made
--   Words IsCrew: workers and elements of a ring
--   Words HasNumbers: the numbers of words of this meaning are in their ranges
--   Words Asks: what reading words of this meaning gives
--   Writes AppendsFront: a front of the text was appended
--   Writes PutsText: where the sink tells, a front of the text was appended, and the whole ..
--   Writes TellsRun: the text of a run was put; status 0 says that it was put whole
pub mod Ending
pub mod Headline
pub mod Listed
pub mod Made
pub mod Played
pub mod Refusals
pub mod Runs
pub mod Scene
pub mod Seen
pub mod Statuses
pub mod Words
pub mod Writes
pub use Ending.{IsScriptOf, SaysNoScript, IsItsScript, IsPlayed, IsNoScript, IsNoStart, IsRefused}
pub use Ending.{StandsThere, IsScenePlayable, IsDoneOrOutOfMemory, IsComplete}
pub use Headline.{IsLawfulOn, OutlivesCrash, KeepsWhatWasFlushed}
pub use Listed.{Listing, ListLeaves}
pub use Played.{IsPlayOf, LeavesPlayed, LeavesUnplayed, SaysCause}
pub use Refusals.{start_status, refused_status, refusal_line}
pub use Runs.{IsRunOn, RunLeaves}
pub use Scene.{NoneFaulted, site_of, image_at, PlayedDisk, opening_image, copy_or}
pub use Seen.{DiskSeen, disk_seen, DiskFaulted, WasRead, SourceSeen, source_seen, SourceFaulted}
pub use Seen.{sink_seen, SinkFaulted}
pub use Statuses.{played_status, HasRunReport}
pub use Words.{text_of, said_by, Making, plans_made, Playing, playing_by, playing_in, HasNumbers}
pub use Words.{Asks}
pub use Writes.{PutsText, TellsRun}
pub use declared.refusal.Refusal.{Refusal}
pub use declared.status.RunStatus.{RunStatus}
pub use declared.status.RunStatus.TheVariants.{BadScript, ClosingFault, DiskFault, Done, NoPart}
pub use declared.status.RunStatus.TheVariants.{NoTable, OutOfMemory, ScriptFault, SinkFault}
pub use declared.status.RunStatus.TheVariants.{TooLarge}
