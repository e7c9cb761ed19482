-- The headline of the written run, field by field.
use Rattle.std.proofs.Common.{◌≡◌, inl, ℕ, Bool, true, false, List, [], ◌∷◌, Some, refl, sym, subst, lit≤, replicate}
use Rattle.std.specs.Fmt.{digits}
use Rattle.crash_law.proofs.Forced.{forced_writes_survive, own_flushes_keep}
use Rattle.crash_law.proofs.Survival.{flushed_at_the_end, flushed_writes_survive}
use Rattle.crash_law.specs.{KeepsAtEachMoment, KeepsFlushed, KeepsForced, KeepsForcedAtEachMoment}
use Rattle.host_block.specs.{IsCrashImage, DiskState, IsCrashOf}
use Rattle.host_io.specs.{state_of}
use Rattle.host_io.specs.declared.mem_disk.MemDisk.{MemDisk}
use Rattle.model_rows.proofs.Lawful.{lawful_from}
use Rattle.host_model.specs.{changes_of, IsLawfulSession, judged}
use Rattle.host_record.specs.{opcode, response_fields}
use Rattle.model_rows.proofs.Legal.{legal-from}
use Rattle.host_report.specs.{IsLawful, session_of, report_text}
use Rattle.host_run.specs.{IsItsScript, KeepsWhatWasFlushed, OutlivesCrash, LeavesPlayed, RunLeaves, opening_image, site_of, TellsRun, Done}
use Rattle.host_run.specs.Headline.{Headline, KeepsWhatWasForced}
use Rattle.play_law.specs.{IsLaidOut, IsLawfulOnAnyDisk}
use Rattle.run_rows.proofs.Drive.{are_used, entry, is_of_size, is_partition, is_table, layout}
use Rattle.run_rows.proofs.Crash.{crash, changes, loses, written_is_missed}
use Rattle.run_rows.proofs.Script.{within_limits}
use Rattle.run_rows.specs.Drive.{image}
use Rattle.run_rows.specs.{RunHasHeadline, WasGathered, copy_in, dry_scene, disk_in, partition, printed, scene, script_text, session_on, unsynced, written}
use Rattle.run_rows.specs.Run.{log, plans, report}
use Rattle.script_played.specs.{PlaysPlans}

never : false ≡ true → ⊥
never e = cc e

-- ---- the script

its_script : (tells : Bool) (state : DiskState) → IsItsScript (scene tells script_text state) plans
its_script tells state = λ told. record { end = refl; is = within_limits }

plays : PlaysPlans plans report
unfolding opcode judged
plays = (record { part = refl; finish = refl; calls = refl; waits = refl }, tt)

-- ---- on whatever disk

session_is_lawful : IsLawfulSession (session_of report (session_on 1 partition log))
unfolding opcode judged
session_is_lawful = lawful_from (session_of report (session_on 1 partition log)) (
  record { numbered = refl; only_sent = lit≤ tt; verdicts = refl; ends = refl; all_taken = λ _. refl; ids = refl },
  (record { steps = refl; outcome = refl }, (record { steps = refl; outcome = refl }, (record { steps = refl; outcome = refl }, tt))),
  refl,
  refl,
  λ _. refl,
  record { entries = refl; ids = refl },
  record { shows = refl; lifts = refl },
  (refl, (refl, (refl, tt))),
  refl,
  refl,
  refl,
  refl,
  refl,
  refl,
  refl,
  refl,
)

answered : IsLawfulOnAnyDisk report
answered = record { numbers = refl; sessions = (session_is_lawful, tt); closing = refl; frames = refl; home = refl }

laid_out : IsLaidOut report
laid_out = record { layout = layout; blocks = refl; used = are_used; ranges = (is_partition, tt) }

-- ---- where the disk tells

lawful : IsLawful image report
lawful = record {
  of_image = record { blocks = refl; size = is_of_size };
  on_table = record { disk_id = replicate 16 9; first_usable = 3; last_usable = 4; entries = entry ∷ []; table = is_table; ranges = (is_partition, tt) };
  run = record {
    numbers = refl;
    sessions = (session_is_lawful, tt);
    closing = refl;
    legal = legal-from image (changes_of report.steps.items) refl;
    frames = refl;
    home = refl;
  };
}

keeps : KeepsWhatWasFlushed (disk_in written) report
keeps = record {
  kept = λ told left of. flushed_at_the_end image report left lawful (crash left of);
  moments = λ told. flushed_writes_survive image report lawful;
}

forced : KeepsWhatWasForced (disk_in written) report
forced = record {
  kept = λ told left of. forced_writes_survive image report left lawful (crash left of);
  moments = λ told. own_flushes_keep image report lawful;
}

-- ---- the headline

headline : WasGathered → Headline (scene true script_text written) report
headline gathered = record {
  played = record { plans = plans; script = its_script true written; is = record { played = plays; gathered = gathered } };
  answered = answered;
  laid_out = laid_out;
  lawful = λ told. lawful;
  outlives = λ told. crash;
  keeps = keeps;
  forced = forced;
}

untold : WasGathered → (state : DiskState) → Headline (scene false script_text state) report
untold gathered state = record {
  played = record { plans = plans; script = its_script false state; is = record { played = plays; gathered = gathered } };
  answered = answered;
  laid_out = laid_out;
  lawful = λ told. absurd (never told);
  outlives = λ told. absurd (never told);
  keeps = record { kept = λ told. absurd (never told); moments = λ told. absurd (never told) };
  forced = record { kept = λ told. absurd (never told); moments = λ told. absurd (never told) };
}

-- where a copy was played on, that opened so and was left so
on_copy : WasGathered → (copy : MemDisk) → opening_image 512 copy ≡ image → state_of copy ≡ written → Headline (dry_scene copy) report
on_copy gathered copy opened left = record {
  played = record { plans = plans; script = its_script false written; is = record { played = plays; gathered = gathered } };
  answered = answered;
  laid_out = laid_out;
  lawful = λ told. subst (λ (blocks : List (List ℕ)). IsLawful blocks report) (sym opened) lawful;
  outlives = λ told after of. subst (λ (blocks : List (List ℕ)). IsCrashImage blocks changes after) (sym opened) (crash_of_copy after of);
  keeps = record {
    kept = λ told after of. subst (λ (blocks : List (List ℕ)). KeepsFlushed blocks report report.steps.items after) (sym opened) (flushed_at_the_end image report after lawful (crash_of_copy after of));
    moments = λ told. subst (λ (blocks : List (List ℕ)). KeepsAtEachMoment blocks report) (sym opened) (flushed_writes_survive image report lawful);
  };
  forced = record {
    kept = λ told after of. subst (λ (blocks : List (List ℕ)). KeepsForced blocks report after) (sym opened) (forced_writes_survive image report after lawful (crash_of_copy after of));
    moments = λ told. subst (λ (blocks : List (List ℕ)). KeepsForcedAtEachMoment blocks report) (sym opened) (own_flushes_keep image report lawful);
  };
}
  where
    crash_of_copy : (after : List (List ℕ)) → IsCrashOf (state_of copy) after → IsCrashImage image changes after
    crash_of_copy after of = crash after (subst (λ (state : DiskState). IsCrashOf state after) left of)

not_on_copy : (copy : MemDisk) → opening_image 512 copy ≡ image → state_of copy ≡ unsynced → ¬ OutlivesCrash (copy_in copy) report
not_on_copy copy opened left h =
    written_is_missed (subst (λ (blocks : List (List ℕ)). IsCrashImage blocks changes image) opened (h refl image (subst (λ (state : DiskState). IsCrashOf state image) (sym left) loses)))

-- ---- what the run leaves

disks : (tells : Bool) (state : DiskState) → LeavesPlayed (site_of (scene tells script_text state)) false report
disks tells state = record {
  size_is = refl;
  few = lit≤ tt;
  own_blocks = refl;
  attached = record { attached = refl; writable = refl; of_size = refl };
  cut_is = (λ cut. cc cut, λ cut. absurd (never cut));
  copy_is = (λ copy. copy, λ copy. copy);
  opened = λ told. tt;
  faults = lit≤ tt;
  no_faults = λ dry. absurd (never dry);
  reads = λ dry. absurd (never dry);
}

pub prints : report_text report false ≡ printed
unfolding digits response_fields
prints = refl

text : (tells : Bool) (state : DiskState) → let s = scene tells script_text state in TellsRun s.sink s.new_sink (report_text report false) Done
text tells state = record {
  puts = record { front = λ told. (printed, ([], sym prints), refl); whole = λ told good. sym prints };
  whole = λ done told. sym prints;
}

leaves : (tells : Bool) (state : DiskState) → Headline (scene tells script_text state) report → RunLeaves (scene tells script_text state) Done (Some report)
leaves tells state head = record {
  headline = head;
  refused = tt;
  playable = λ playable good. inl refl;
  complete = record { no_faults = λ good. refl; done = λ disk_good sink_good. inl refl };
  disks = disks tells state;
  text = text tells state;
}

pub run_has_headline : RunHasHeadline
run_has_headline = record {
  script = its_script true written;
  plays = plays;
  answered = answered;
  laid_out = laid_out;
  lawful = λ told. lawful;
  outlives = λ told. crash;
  keeps = keeps;
  forced = forced;
  headline = headline;
  leaves = λ gathered. leaves true written (headline gathered);
  untold = λ gathered state. leaves false state (untold gathered state);
  on_copy = on_copy;
  not_on_copy = not_on_copy;
}
