-- What a run leaves, from what its stages left.
use Rattle.std.proofs.Common.{◌≡◌, ◌⊎◌, inl, refl, subst, sym, ℕ, Option, Some, None, List, arith}
use Rattle.std.specs.Prelude.{IfSome}
use Rattle.host_report.specs.{Report}
use Rattle.host_run.specs.{IsItsScript, IsNoScript, IsNoStart, SaysNoScript, IsPlayOf, LeavesUnplayed, start_status, IsRunOn, RunLeaves, site_of, DiskFaulted, DiskSeen, SinkFaulted, SourceFaulted, SourceSeen, WasRead, HasRunReport, Making, Playing, text_of, TellsRun, RunStatus, OutOfMemory, SinkFault}
use Rattle.host_run.specs.Scene.{Scene}
use Rattle.host_start.specs.{StartError}
use Rattle.host_start.specs.declared.error.StartError.TheVariants as error
use Rattle.script_model.specs.{PlannedSession}
use Rattle.host_run.proofs.Faults.{complete}
use Rattle.host_run.proofs.Playable.{refused_playable}

-- a script that was played and told
pub played_leaves : (scene : Scene) (plans : List PlannedSession) (report : Report) (status : RunStatus) → IsItsScript scene plans → IsPlayOf plans scene.playing.workers scene.playing.depth report → IsRunOn (site_of scene) scene.playing.cut report
    → HasRunReport status (Some report) → (status ≡ SinkFault → SinkFaulted scene.sink scene.new_sink) → TellsRun scene.sink scene.new_sink (text_of scene.playing.told report) status
    → RunLeaves scene status (Some report)
played_leaves scene plans report status script played ran ended sink_fault told =
    let whole = complete scene played.gathered.ends report status played.gathered.gathered ran.left.faults ended sink_fault in
    record {
      headline = record {
        played = record { plans = plans; script = script; is = played };
        answered = ran.answered;
        laid_out = ran.laid_out;
        lawful = ran.lawful;
        outlives = ran.outlives;
        keeps = ran.keeps;
        forced = ran.forced;
      };
      refused = tt;
      playable = λ playable none. whole.done none.disk none.sink;
      complete = whole;
      disks = ran.left;
      text = told;
    }

-- a run that was refused
pub refused_leaves : (scene : Scene) (status : RunStatus) (e : StartError) → status ≡ start_status e → IsNoScript scene e ⊎ IsNoStart scene e → (e ≡ error.Source → SourceFaulted scene.source scene.new_source) → (e ≡ error.Disk → DiskFaulted scene.disk scene.new_disk)
    → LeavesUnplayed (site_of scene)
    → RunLeaves scene status None
refused_leaves scene status e is why source_fault disk_fault left = record {
  headline = tt;
  refused = record { error = e; is = is; why = why };
  playable = refused_playable scene status e is why source_fault disk_fault;
  complete = tt;
  disks = left;
  text = tt;
}

-- a disk that nothing was done to was only read
pub untouched : (before after : DiskSeen) → after ≡ before → WasRead before after
untouched before after same = subst (λ (d : DiskSeen). WasRead before d) (sym same) (record {
  writes = refl;
  syncs = refl;
  reads = omega arith;
  later = omega arith;
  still = λ never. never;
  no_fault = λ never. refl;
})

-- ---- a call without memory for its words, as a run

says_oom : (size : ℕ) (making : Option Making) (before after : SourceSeen) → SaysNoScript size making before after error.Oom
says_oom size None before after = λ told. tt
says_oom size (Some making) before after = tt

pub oom_leaves : (o : Option Playing) (scene : Playing → Scene) (s : RunStatus) (report : Option Report) → s ≡ OutOfMemory → report ≡ None → ((playing : Playing) → LeavesUnplayed (site_of (scene playing)))
    → IfSome o (λ playing. RunLeaves (scene playing) s report)
oom_leaves None scene s report is none left = tt
oom_leaves (Some playing) scene s None is none left =
    let here = scene playing in
    refused_leaves here s error.Oom is (inl (record { cause = tt; says = says_oom here.playing.size here.playing.making here.source here.new_source })) (λ same. absurd (cc same)) (λ same. absurd (cc same)) (left playing)
oom_leaves (Some playing) scene s (Some report) is none left = absurd (cc)
