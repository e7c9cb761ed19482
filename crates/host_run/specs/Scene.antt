-- What a run is called on, and what it leaves outside.
use Rattle.std.specs.Prelude.{ℕ, Bool, true, List, Option, Some, None}
use Rattle.host_block.specs.Disk.{DiskState}
use Rattle.host_io.specs.Flat.{image_of}
use Rattle.host_io.specs.MemDisk.{opening_of, state_of}
use Rattle.host_io.specs.declared.mem_disk.MemDisk.{MemDisk}
use Rattle.host_run.specs.Seen.{DiskFaulted, DiskSeen, SinkFaulted, SinkSeen, SourceFaulted}
use Rattle.host_run.specs.Seen.{SourceSeen}
use Rattle.host_run.specs.Words.{Playing}

-- What the words ask for; source, disk and sink as they were and as they are left; and the copy
-- that is handed out.
pub record Scene : Type 0 where
  pub playing : Playing
  pub source : SourceSeen
  pub new_source : SourceSeen
  pub disk : DiskSeen
  pub new_disk : DiskSeen
  pub sink : SinkSeen
  pub new_sink : SinkSeen
  pub copy : Option MemDisk

-- neither source nor disk nor sink failed
pub record NoneFaulted (scene : Scene) : Type 0 where
  pub source : ¬ SourceFaulted scene.source scene.new_source
  pub disk : ¬ DiskFaulted scene.disk scene.new_disk
  pub sink : ¬ SinkFaulted scene.sink scene.new_sink

-- ---- the disks

-- Where a script is played: the image's name and the size of its blocks, whether it is played on a
-- copy, the disk as it was handed in and as it is left, and the copy.
pub record Site : Type 0 where
  pub name : List ℕ
  pub size : ℕ
  pub on_copy : Bool
  pub disk : DiskSeen
  pub new_disk : DiskSeen
  pub copy : Option MemDisk

abbrev pub site_of : Scene → Site
site_of scene = record {
  name = scene.playing.name;
  size = scene.playing.size;
  on_copy = scene.playing.dry;
  disk = scene.disk;
  new_disk = scene.new_disk;
  copy = scene.copy;
}

-- the image, as the disk that was handed in held it
abbrev pub image_at : Site → List (List ℕ)
image_at site = site.disk.image_named site.name site.size

-- A disk that was played on: whether it tells, the image that it held when the run began, and its
-- state now.
pub record PlayedDisk : Type 0 where
  pub tells : Bool
  pub image : List (List ℕ)
  pub state : DiskState

-- the blocks of a size that a copy opened with
abbrev pub opening_image : ℕ → MemDisk → List (List ℕ)
opening_image size copy = image_of size (opening_of copy)

-- it is the copy where there is one, else the disk that was handed in
abbrev pub copy_or : ℕ → Option MemDisk → PlayedDisk → PlayedDisk
copy_or size (Some copy) handed_in =
    record { tells = true; image = opening_image size copy; state = state_of copy }
copy_or size None handed_in = handed_in

-- the disk that was played on
abbrev pub played_disk : Site → PlayedDisk
played_disk site =
    copy_or site.size site.copy (record
    { tells = site.disk.shape.tells; image = image_at site; state = site.new_disk.state })
