-- A run whose sessions were played over the workers has a lawful report, and its disk outlives a
-- crash.
use Rattle.std.specs.Prelude.{◌≡◌, Bool, ℕ, true, List, map}
use Rattle.std.specs.List.{AllByRecursion}
use Rattle.host_block.specs.Crash.{IsCrashImage}
use Rattle.host_block.specs.Disk.{DiskState, IsCrashOf}
use Rattle.host_gpt.specs.Entries.{AreUsed}
use Rattle.host_model.specs.Changes.{changes_of}
use Rattle.host_part.specs.Ranges.{IsRangeOf}
use Rattle.host_part.specs.Served.{Layout}
use Rattle.host_report.specs.declared.report.Report.{Report}
use Rattle.host_report.specs.Lawful.{IsLawful}
use Rattle.host_start.specs.declared.start.Start.{Start}
use Rattle.host_start.specs.Images.{IsPlaced}
use Rattle.script_model.specs.Plans.{plans_of}
use Rattle.host_play.specs.Plays.{IsReportOf, KeepsImage}
use Rattle.crash_law.specs.Forced.{KeepsForced, KeepsForcedAtEachMoment}
use Rattle.crash_law.specs.Survival.{KeepsAtEachMoment, KeepsFlushed}

-- What is known of a run on a disk that tells its content: its start found the partitions of the
-- script's sessions on this image, the sessions were played on these partitions by a server that
-- then was finished, and the disk, which opened with the image, keeps it under the report's steps.
pub record IsPlayOn (image : List (List ℕ)) (start : Start) (workers depth : ℕ) (report : Report)
    (state : DiskState) : Type 0 where
  pub placed : IsPlaced true image start
  pub blocks_are : report.blocks ≡ start.blocks
  pub size_is : report.size ≡ start.size
  pub which_is : report.which ≡ start.which
  pub report_of : IsReportOf (plans_of start.script) (map (λ place. place.range) start.places.items)
      workers depth report
  pub keeps : KeepsImage image start.blocks start.size (changes_of report.steps.items) state

-- The report is lawful for the image, and a crash leaves an image that its steps allow, in which
-- has survived what was flushed, and what a forced write wrote; so it was at every moment of the
-- run.
pub record IsSound (image : List (List ℕ)) (report : Report) (state : DiskState) : Type 0 where
  pub lawful : IsLawful image report
  pub crashes : (left : List (List ℕ)) → IsCrashOf state left
      → IsCrashImage image (changes_of report.steps.items) left
  pub flushed : (left : List (List ℕ)) → IsCrashOf state left
      → KeepsFlushed image report report.steps.items left
  pub moments : KeepsAtEachMoment image report
  pub forced : (left : List (List ℕ)) → IsCrashOf state left → KeepsForced image report left
  pub forced_moments : KeepsForcedAtEachMoment image report

-- The sessions of a report are on the ranges that one layout on its blocks gives to their
-- partitions. So sessions on two partitions share no block, and each range lies among the blocks.
-- The layout's entries are used ones by rising number; so a partition is one range.
pub record IsLaidOut (report : Report) : Type 0 where
  pub layout : Layout
  pub blocks : layout.blocks ≡ report.blocks
  pub used : AreUsed layout.entries
  pub ranges : AllByRecursion (λ s. IsRangeOf layout s.part s.range) report.sessions.items

-- on whatever disk, also one that tells nothing
abbrev pub PlayedRunsAreLaidOut : Type 0
PlayedRunsAreLaidOut =
    (tells : Bool) (image : List (List ℕ)) (start : Start) (workers depth : ℕ) (report : Report)
    → IsPlaced tells image start → report.blocks ≡ start.blocks
    → IsReportOf (plans_of start.script) (map (λ place. place.range) start.places.items) workers
    depth report → IsLaidOut report

abbrev pub PlayedRunsAreSound : Type 0
PlayedRunsAreSound =
    (image : List (List ℕ)) (start : Start) (workers depth : ℕ) (report : Report)
    (state : DiskState) → IsPlayOn image start workers depth report state
    → IsSound image report state
