use Rattle.std.proofs.Common.{Err, None, Option, Some, ap, inl, subst, sym}
use Rattle.host_io.specs.declared.mem_disk.MemDisk.{MemDisk}
use Rattle.host_report.specs.{Report}
use Rattle.host_start.specs.{Makes, StartError}
use Rattle.host_run.specs.{RunLeaves, disk_seen, sink_seen, Making, plans_made, playing_by}
use Rattle.host_run.specs.Scene.{Scene}
use Rattle.host_run.proofs.Left.{refused_leaves, untouched}
use Rattle.host_run.proofs.load.load.Goals as goal

pub returns-in-Ok-clause-run : goal.returns-in-Ok-clause-run
returns-in-Ok-clause-run g c = λ source new_source.
    c.play_and_tell.ensures.run (Some (record { seed = c.args.seed; sessions = c.args.sessions; requests = c.args.requests })) source new_source (c.in-Ok.ensures.script.0, c.in-Ok.ensures.fit.limits)

pub returns-in-Err-clause-run : goal.returns-in-Err-clause-run
returns-in-Err-clause-run g c = λ source new_source.
    let told = c.refuse.ensures in
    let making : Making = record { seed = c.args.seed; sessions = c.args.sessions; requests = c.args.requests } in
    let scene : Option MemDisk → Scene = λ dry. record {
      playing = playing_by c.args.image.now c.args.size c.args.mode (Some making);
      source = source;
      new_source = new_source;
      disk = disk_seen g.D.Disk c.args.disk;
      new_disk = disk_seen g.D.Disk c.refuse.result.disk;
      sink = sink_seen g.K.Sink c.args.out.now;
      new_sink = sink_seen g.K.Sink c.refuse.new.out;
      copy = dry;
    } in
    let status = c.refuse.result.status in
    let reads = untouched (disk_seen g.D.Disk c.args.disk) (disk_seen g.D.Disk c.refuse.result.disk) (ap (λ d. disk_seen g.D.Disk d) told.disk) in
    let says : Makes c.args.size (plans_made making) (Err c.in-Err.error) = c.in-Err.ensures.script in
    subst (λ (r : Option Report). RunLeaves (scene c.refuse.result.dry) status r) (sym told.no_report)
    (subst (λ (dry : Option MemDisk). RunLeaves (scene dry) status None) (sym told.no_dry)
    (refused_leaves (scene None) status c.in-Err.error told.status
    (inl (record { cause = c.in-Err.ensures.cause; says = says }))
    (λ same. absurd (subst (λ (e : StartError). Makes c.args.size (plans_made making) (Err e)) same says)) (λ same. absurd (subst (λ (e : StartError). Makes c.args.size (plans_made making) (Err e)) same says))
    (record { reads = reads; opened = λ told. tt })))
