-- A run whose sessions were played over the workers has a lawful report, and its disk outlives a crash.
use Rattle.std.proofs.Common.{ℕ, List, sym, subst, ◌∙◌}
use Rattle.host_block.specs.{DiskState, IsImage}
use Rattle.host_report.specs.{IsLawful, Report}
use Rattle.host_start.specs.{Start}
use Rattle.play_law.proofs.Reports.{gathered_reports_are_lawful}
use Rattle.crash_law.proofs.Forced.{forced_writes_survive, own_flushes_keep}
use Rattle.crash_law.proofs.Survival.{flushed_at_the_end, flushed_writes_survive}
use Rattle.play_law.specs.{IsPlayOn, PlayedRunsAreLaidOut, PlayedRunsAreSound}
use Rattle.play_law.proofs.Placed.{laid_out, on_table}

played_report_is_lawful : (image : List (List ℕ)) (start : Start) (workers depth : ℕ) (report : Report) (state : DiskState) → IsPlayOn image start workers depth report state → IsLawful image report
played_report_is_lawful image start workers depth report state run =
    gathered_reports_are_lawful image run.report_of.ends report run.report_of.gathered
    (record { blocks = run.blocks_are ∙ sym run.keeps.blocks_are; size = subst (λ (n : ℕ). IsImage n image) (sym run.size_is) run.keeps.size_is })
    (on_table image start workers depth report run.placed run.report_of run.which_is)
    run.keeps.legal

pub played_runs_are_laid_out : PlayedRunsAreLaidOut
played_runs_are_laid_out tells image start workers depth report placed blocks run = laid_out tells image start workers depth report placed run blocks

pub played_runs_are_sound : PlayedRunsAreSound
played_runs_are_sound image start workers depth report state run =
    let lawful = played_report_is_lawful image start workers depth report state run in
    record {
      lawful = lawful;
      crashes = run.keeps.crashes;
      flushed = λ left is_left. flushed_at_the_end image report left lawful (run.keeps.crashes left is_left);
      moments = flushed_writes_survive image report lawful;
      forced = λ left is_left. forced_writes_survive image report left lawful (run.keeps.crashes left is_left);
      forced_moments = own_flushes_keep image report lawful;
    }
