-- What a run leaves whose script has a bad line, and what it can't leave.
use Rattle.std.specs.Prelude.{ℕ, true, false, List, [], codes, Some, None}
use Rattle.host_block.specs.Disk.{fresh}
use Rattle.host_report.specs.declared.report.Report.{Report}
use Rattle.host_run.specs.Runs.{RunLeaves}
use Rattle.host_run.specs.Scene.{Scene}
use Rattle.host_run.specs.declared.status.RunStatus.TheVariants.{BadScript, Done, NoTable, TooLarge}
use Rattle.host_start.specs.declared.error.Limit.{Limit}
use Rattle.run_rows.specs.Drive.{image}
use Rattle.run_rows.specs.Run.{disk_seen, playing}
use Rattle.script_model.specs.declared.cause.ScriptCause.TheVariants.{BadNumber, UnknownWord}

abbrev pub bad_text : List ℕ
bad_text = codes "session 1\nfly 2\n"

-- `run disk.img` on this text: the disk wasn't touched
abbrev pub unplayed : Scene
unplayed = record {
  playing = playing;
  source = record { tells = true; left = bad_text; faults = 0 };
  new_source = record { tells = true; left = []; faults = 0 };
  disk = disk_seen true false (fresh image);
  new_disk = disk_seen true false (fresh image);
  sink = record { tells = true; appended = []; faults = 0 };
  new_sink = record { tells = true; appended = codes "refused 4 line 2 word\n"; faults = 0 };
  copy = None;
}

pub record BadScriptIsTold : Type 0 where
  pub told : RunLeaves unplayed (BadScript 2 UnknownWord) None
  -- another line, another cause, a limit, a table that isn't there: none is the cause; and nothing
  -- was played
  pub not_line : ¬ RunLeaves unplayed (BadScript 1 UnknownWord) None
  pub not_cause : ¬ RunLeaves unplayed (BadScript 2 BadNumber) None
  pub not_large : (what : Limit) → ¬ RunLeaves unplayed (TooLarge what) None
  pub not_table : ¬ RunLeaves unplayed NoTable None
  pub not_played : (report : Report) → ¬ RunLeaves unplayed Done (Some report)
