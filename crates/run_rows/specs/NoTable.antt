-- What a run leaves whose image has no partition table, and what it can't leave.
use Rattle.std.specs.Prelude.{◌≡◌, Bool, true, false, List, ℕ, [], ◌∷◌, codes, Some, None}
use Rattle.host_block.specs.Disk.{fresh}
use Rattle.host_io.specs.declared.mem_disk.MemDisk.{MemDisk}
use Rattle.host_report.specs.declared.report.Report.{Report}
use Rattle.host_run.specs.Listed.{ListLeaves, Listing}
use Rattle.host_run.specs.Runs.{RunLeaves}
use Rattle.host_run.specs.Scene.{Scene, opening_image}
use Rattle.host_run.specs.Seen.{DiskSeen}
use Rattle.host_run.specs.declared.status.RunStatus.{RunStatus}
use Rattle.host_run.specs.declared.status.RunStatus.TheVariants.{NoTable, TooLarge}
use Rattle.host_start.specs.declared.error.Limit.TheVariants as limit
use Rattle.run_rows.specs.Drive.{cells, image}
use Rattle.run_rows.specs.Run.{playing, script_text}

-- `run disk.img` on an image of these blocks, which was only read
abbrev pub scene_on : List (List ℕ) → Scene
scene_on blocks = record {
  playing = playing;
  source = record { tells = true; left = script_text; faults = 0 };
  new_source = record { tells = true; left = []; faults = 0 };
  disk = record {
    shape = record { tells = true; attached = false; writable = false; blocks = 0; size = 0 };
    image_named = λ name size. blocks;
    state = fresh [];
    counts = record { faults = 0; reads = 0; writes = 0; syncs = 0 };
    never_fails = false;
  };
  new_disk = record {
    shape = record { tells = true; attached = true; writable = true; blocks = 1; size = 512 };
    image_named = λ name size. blocks;
    state = fresh blocks;
    counts = record { faults = 0; reads = 1; writes = 0; syncs = 0 };
    never_fails = false;
  };
  sink = record { tells = true; appended = []; faults = 0 };
  new_sink = record { tells = true; appended = codes "refused 3 no table\n"; faults = 0 };
  copy = None;
}

-- one block, which has no place for a header
abbrev pub bare : List (List ℕ)
bare = cells 0 ∷ []

-- a disk that tells nothing, with so many blocks, to be written or to be read alone
abbrev pub untold : Bool → ℕ → DiskSeen
untold writable blocks = record {
  shape = record
      { tells = false; attached = true; writable = writable; blocks = blocks; size = 512 };
  image_named = λ name size. [];
  state = fresh [];
  counts = record { faults = 0; reads = 1; writes = 0; syncs = 0 };
  never_fails = false;
}

-- `run --dry disk.img` on such a disk, which hands out this copy
abbrev pub dry_on : Bool → ℕ → MemDisk → Scene
dry_on writable blocks copy = record {
  playing = record playing { dry = true };
  source = record { tells = true; left = script_text; faults = 0 };
  new_source = record { tells = true; left = []; faults = 0 };
  disk = untold false 0;
  new_disk = untold writable blocks;
  sink = record { tells = true; appended = []; faults = 0 };
  new_sink = record { tells = true; appended = codes "refused 3 no table\n"; faults = 0 };
  copy = Some copy;
}

-- `list disk.img` on such a disk
abbrev pub list_on : Bool → ℕ → Listing
list_on writable blocks = record {
  asked = record { name = codes "disk.img"; size = 512 };
  disk = untold false 0;
  new_disk = untold writable blocks;
  sink = record { tells = true; appended = []; faults = 0 };
  new_sink = record { tells = true; appended = codes "refused 3 no table\n"; faults = 0 };
}

pub record NoTableIsTold : Type 0 where
  pub told : RunLeaves (scene_on bare) NoTable None
  -- a report can't be of an image without a table, nor is the status due to an image that has one
  pub not_played : (status : RunStatus) (report : Report)
      → ¬ RunLeaves (scene_on bare) status (Some report)
  pub has_table : ¬ RunLeaves (scene_on image) NoTable None
  -- where the disk tells nothing the copy is the cause: one that opened without a table, and with
  -- as many blocks as the disk
  pub copied : (copy : MemDisk) → opening_image 512 copy ≡ bare
      → RunLeaves (dry_on false 1 copy) NoTable None
  pub copy_has_table : (copy : MemDisk) → opening_image 512 copy ≡ image
      → ¬ RunLeaves (dry_on false 5 copy) NoTable None
  pub other_blocks : (copy : MemDisk) → opening_image 512 copy ≡ bare
      → ¬ RunLeaves (dry_on false 5 copy) NoTable None
  -- the disk was attached to be read alone, and its five blocks aren't too many
  pub to_be_written : (copy : MemDisk) → ¬ RunLeaves (dry_on true 1 copy) NoTable None
  pub not_large : (copy : MemDisk) → ¬ RunLeaves (dry_on false 5 copy) (TooLarge limit.Blocks) None
  -- so for a list
  pub listed : ListLeaves (list_on false 1) NoTable
  pub listed_to_be_written : ¬ ListLeaves (list_on true 1) NoTable
  pub listed_not_large : ¬ ListLeaves (list_on false 5) (TooLarge limit.Blocks)
