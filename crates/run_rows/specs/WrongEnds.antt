-- What the written run can't leave.
use Rattle.std.specs.Prelude.{Bool, true, false, ℕ, Some, None, take}
use Rattle.host_run.specs.Runs.{RunLeaves}
use Rattle.host_run.specs.Scene.{Scene}
use Rattle.host_run.specs.declared.status.RunStatus.TheVariants.{ClosingFault, DiskFault, Done}
use Rattle.run_rows.specs.Run.{disk_seen, playing, printed, report, scene, script_text, written}

abbrev pub here : Scene
here = scene true script_text written

-- the first n bytes of the text were put
abbrev pub cut_short : ℕ → Scene
cut_short n =
    record here { new_sink = record { tells = true; appended = take n printed; faults = 0 } }

-- the words asked that the closing flush be left out
abbrev pub to_be_cut : Scene
to_be_cut = record here { playing = record playing { cut = true } }

-- they asked for a copy
abbrev pub to_be_dry : Scene
to_be_dry = record here { playing = record playing { dry = true } }

-- on a disk that tells nothing, which is left with so many blocks, to be written or to be read
-- alone
abbrev pub untold_with : Bool → ℕ → Scene
untold_with writable blocks = record (scene false script_text written) {
  new_disk = record (disk_seen false true written) {
    shape = record
        { tells = false; attached = true; writable = writable; blocks = blocks; size = 512 };
  };
}

pub record WrongEndsAreRefused : Type 0 where
  -- the run was to be played, since nothing failed, and then to end with status 0
  pub not_refused : ¬ RunLeaves here DiskFault None
  pub closing_fault : ¬ RunLeaves here ClosingFault (Some report)
  -- status 0 promises the whole text
  pub not_whole : ¬ RunLeaves (cut_short 100) Done (Some report)
  -- a closing flush that was made though it was to be left out, and no copy though one was asked
  -- for
  pub not_cut : ¬ RunLeaves to_be_cut Done (Some report)
  pub no_copy : ¬ RunLeaves to_be_dry Done (Some report)
  -- a report of five blocks on a disk that has six, and a run on an image that is attached to be
  -- read alone
  pub other_blocks : ¬ RunLeaves (untold_with true 6) Done (Some report)
  pub not_writable : ¬ RunLeaves (untold_with false 5) Done (Some report)
