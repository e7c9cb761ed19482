-- What `list` leaves.
use Rattle.std.specs.Prelude.{◌≡◌, ℕ, IsTrue, List, ◌++◌}
use Rattle.host_gpt.specs.declared.table.Table.{Table}
use Rattle.host_list.specs.Answers.{IsListed, IsReadAlone, Refuses, RefusesBlocks}
use Rattle.host_list.specs.Text.{list_text}
use Rattle.host_list.specs.declared.list_error.ListError.{ListError}
use Rattle.host_list.specs.declared.list_error.ListError.TheVariants as error
use Rattle.host_run.specs.Refusals.{refusal_line}
use Rattle.host_run.specs.Seen.{DiskSeen, SinkSeen}
use Rattle.host_run.specs.Words.{TableOf}
use Rattle.host_run.specs.Writes.{PutsText}
use Rattle.host_start.specs.declared.error.Limit.TheVariants as limit
use Rattle.host_run.specs.declared.status.RunStatus.{RunStatus}
use Rattle.host_run.specs.declared.status.RunStatus.TheVariants.{DiskFault, Done, NoTable}
use Rattle.host_run.specs.declared.status.RunStatus.TheVariants.{OutOfMemory, SinkFault, TooLarge}

-- What a list is called on, and what it leaves: the table that is asked for, and disk and sink as
-- they were and as they are left.
pub record Listing : Type 0 where
  pub asked : TableOf
  pub disk : DiskSeen
  pub new_disk : DiskSeen
  pub sink : SinkSeen
  pub new_sink : SinkSeen

-- the image, as the disk held it
abbrev pub listed_image : Listing → List (List ℕ)
listed_image l = l.disk.image_named l.asked.name l.asked.size

-- The text of a table on the disk's own blocks was put, which is the image's where the disk tells;
-- status 0 says that it was put whole. The image is attached to be read alone.
pub record PutsList (l : Listing) (status : RunStatus) : Type 0 where
  pub blocks : ℕ
  pub table : Table
  pub listed : IsTrue l.disk.shape.tells → IsListed (listed_image l) blocks table
  pub own_blocks : blocks ≡ l.new_disk.shape.blocks
  pub attached : IsReadAlone l.asked.size l.new_disk.shape
  pub puts : PutsText l.sink l.new_sink (list_text blocks l.asked.size table)
  pub done : status ≡ Done → IsTrue l.sink.tells
      → l.new_sink.appended ≡ l.sink.appended ++ list_text blocks l.asked.size table

-- the line of the refusal was put
abbrev pub PutsLine : Listing → RunStatus → Type 0
PutsLine l status = PutsText l.sink l.new_sink (refusal_line status)

-- The line was put, and the cause is the image, where the disk tells, and the number of blocks that
-- the disk has in any case. The image is attached to be read alone.
pub record RefusesList (l : Listing) (status : RunStatus) (error : ListError) : Type 0 where
  pub line : PutsLine l status
  pub told : IsTrue l.disk.shape.tells → Refuses (listed_image l) error
  pub blocks : RefusesBlocks l.new_disk.shape.blocks error
  pub attached : IsReadAlone l.asked.size l.new_disk.shape

-- what `list` leaves, by its status; no other status comes
abbrev pub ListLeaves : Listing → RunStatus → Type 0
ListLeaves l Done = PutsList l Done
ListLeaves l SinkFault = PutsList l SinkFault
ListLeaves l NoTable = RefusesList l NoTable error.NoTable
ListLeaves l (TooLarge limit.Blocks) = RefusesList l (TooLarge limit.Blocks) error.TooManyBlocks
ListLeaves l (TooLarge limit.Table) = RefusesList l (TooLarge limit.Table) error.TableTooLarge
ListLeaves l DiskFault = PutsLine l DiskFault
ListLeaves l OutOfMemory = PutsLine l OutOfMemory
ListLeaves l _ = ⊥
