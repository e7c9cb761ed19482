-- What is seen of a disk, a source and a sink at one moment.
use Rattle.std.specs.Prelude.{ℕ, Bool, List}
use Rattle.host_block.specs.Disk.{DiskState}
use Rattle.host_io.specs.Causes.{Rose}
use Rattle.host_io.specs.Disks.{OnlyReads, Shape}
use Rattle.host_io.specs.declared.counts.Counts.{Counts}
use Rattle.host_io.specs.declared.disk.Disk as disk
use Rattle.host_io.specs.declared.sink.Sink as sink
use Rattle.host_io.specs.declared.source.Source as source

-- ---- a disk

-- Whether it tells its content, with what is attached; the blocks of an image of this name and
-- block size; its durable blocks and pending writes; how often it has failed and was called;
-- whether it never fails.
pub record DiskSeen : Type 0 where
  pub shape : Shape
  pub image_named : List ℕ → ℕ → List (List ℕ)
  pub state : DiskState
  pub counts : Counts
  pub never_fails : Bool

abbrev pub disk_seen : {D : Type 0} → disk.Ghosts D → D → DiskSeen
disk_seen g d =
    record {
      shape = g.shape d;
      image_named = g.image_named d;
      state = g.state d;
      counts = g.counts d;
      never_fails = g.never_fails d;
    }

-- its count of faults rose
abbrev pub DiskFaulted : DiskSeen → DiskSeen → Type 0
DiskFaulted before after = Rose before.counts.faults after.counts.faults

-- it was only read
abbrev pub WasRead : DiskSeen → DiskSeen → Type 0
WasRead before after = OnlyReads before.counts after.counts before.never_fails after.never_fails

-- ---- a source

-- Whether it tells its content, the bytes that are left there, and how often it has failed.
pub record SourceSeen : Type 0 where
  pub tells : Bool
  pub left : List ℕ
  pub faults : ℕ

abbrev pub source_seen : {S : Type 0} → source.Ghosts S → S → SourceSeen
source_seen g s = record { tells = g.tells s; left = g.left s; faults = g.faults s }

-- its count of faults rose
abbrev pub SourceFaulted : SourceSeen → SourceSeen → Type 0
SourceFaulted before after = Rose before.faults after.faults

-- ---- a sink

-- Whether it tells its content, the bytes that were appended, and how often it has failed.
pub record SinkSeen : Type 0 where
  pub tells : Bool
  pub appended : List ℕ
  pub faults : ℕ

abbrev pub sink_seen : {K : Type 0} → sink.Ghosts K → K → SinkSeen
sink_seen g k = record { tells = g.tells k; appended = g.appended k; faults = g.faults k }

-- its count of faults rose
abbrev pub SinkFaulted : SinkSeen → SinkSeen → Type 0
SinkFaulted before after = Rose before.faults after.faults
