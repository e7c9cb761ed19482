-- How faulted steps show in the count of the disk, and in the status.
use Rattle.std.proofs.Common.{◌≡◌, inl, inr, ℕ, ◌+◌, ◌≤◌, zero, suc, Bool, true, false, cond, List, [], ◌∷◌, ◌++◌, Some, refl, ◌∙◌, ap, arith}
use Rattle.std.proofs.lemmas.List.Sums.{sum_by-append}
use Rattle.host_device.specs.{RoseBy, faulted_count}
use Rattle.host_io.specs.{Rose}
use Rattle.host_model.specs.{Step}
use Rattle.host_report.specs.{closing_flush, closing_steps, Closing, Good, Fault, Cut, NoMemory, Report}
use Rattle.host_run.specs.{IsComplete, IsDoneOrOutOfMemory, SinkFaulted, HasRunReport, played_status, RunStatus, SinkFault}
use Rattle.host_run.specs.Scene.{Scene}
use Rattle.host_worker.specs.{EndsState, IsReportGathered}

-- a count that rose by one or more rose
pub rose_by : (n before now : ℕ) → RoseBy n before now → 1 ≤ n → Rose before now
rose_by n before now rose some = omega (arith, rose, some)

-- a count that rose by nothing only stayed, or rose for another cause
pub rose_by_none : (before now : ℕ) → before ≤ now → RoseBy 0 before now
rose_by_none before now later = omega (arith, later)

-- a count that rose so many times since a later moment did so since an earlier one
pub rose_before : (n before mid now : ℕ) → before ≤ mid → RoseBy n mid now → RoseBy n before now
rose_before n before mid now later rose = omega (arith, later, rose)

-- where the count stood at nothing and stays, no step is faulted
pub none_faulted : (n before now : ℕ) → RoseBy n before now → now ≡ before → before ≡ 0 → n ≡ 0
none_faulted n before now rose same none = omega (arith, rose, same, none)

-- where the count didn't rise, no step is faulted
pub no_faults : (n before now : ℕ) → RoseBy n before now → ¬ Rose before now → n ≡ 0
no_faults zero before now rose none = refl
no_faults (suc n) before now rose none = absurd (none (rose_by (suc n) before now rose (omega arith)))

faulted_count-append : (a b : List Step) → faulted_count (a ++ b) ≡ faulted_count a + faulted_count b
faulted_count-append a b = sum_by-append (λ (s : Step). cond s.faulted 1 0) a b

-- a closing flush that failed is a faulted step
closing_faulted : (ends : EndsState) (report : Report) → IsReportGathered ends report → report.closing ≡ Fault → 1 ≤ faulted_count report.steps.items
closing_faulted ends report gathered fault =
    let steps : report.steps.items ≡ ends.story ++ closing_flush true ∷ [] = gathered.steps_are ∙ ap (λ (c : Closing). ends.story ++ closing_steps c) fault in
    let count = ap faulted_count steps ∙ faulted_count-append ends.story (closing_flush true ∷ []) in
    omega (arith, count)

-- where neither disk nor sink failed, the run is done, or there was no memory for its closing flush
done : (closing : Closing) (was_written : Bool) (status : RunStatus) → status ≡ played_status closing was_written → ¬ (closing ≡ Fault) → ¬ (status ≡ SinkFault) → IsDoneOrOutOfMemory status
done Good true status is good written = inl is
done Good false status is good written = absurd (written is)
done Cut true status is good written = inl is
done Cut false status is good written = absurd (written is)
done Fault was_written status is good written = absurd (good refl)
done NoMemory was_written status is good written = inr is

pub complete : (scene : Scene) (ends : EndsState) (report : Report) (status : RunStatus) → IsReportGathered ends report → RoseBy (faulted_count report.steps.items) scene.disk.counts.faults scene.new_disk.counts.faults → HasRunReport status (Some report)
    → (status ≡ SinkFault → SinkFaulted scene.sink scene.new_sink)
    → IsComplete scene status report
complete scene ends report status gathered rose ended sink_fault =
    let before = scene.disk.counts.faults in
    let after = scene.new_disk.counts.faults in
    let count = faulted_count report.steps.items in
    record {
      no_faults = λ none. no_faults count before after rose none;
      done = λ none no_sink. done report.closing ended.0 status ended.1
          (λ fault. none (rose_by count before after rose (closing_faulted ends report gathered fault))) (λ is. no_sink (sink_fault is));
    }
