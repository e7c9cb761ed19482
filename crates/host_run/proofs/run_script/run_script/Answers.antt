use Rattle.std.proofs.Common.{Err, None, Option, ap, inl, subst, sym}
use Rattle.host_io.specs.declared.mem_disk.MemDisk.{MemDisk}
use Rattle.host_report.specs.{Report}
use Rattle.host_run.specs.{RunLeaves, disk_seen, sink_seen, source_seen, playing_by}
use Rattle.host_run.specs.Scene.{Scene}
use Rattle.host_start.specs.{IsOfScript, StartError}
use Rattle.host_run.proofs.Left.{refused_leaves, untouched}
use Rattle.host_run.proofs.run_script.run_script.Goals as goal

pub returns-in-Ok-clause-run : goal.returns-in-Ok-clause-run
returns-in-Ok-clause-run g c =
    c.play_and_tell.ensures.run None (source_seen g.S.Source c.args.source.now) (source_seen g.S.Source c.read_script.new.source) (λ told. c.in-Ok.ensures.script told)

pub returns-in-Err-clause-run : goal.returns-in-Err-clause-run
returns-in-Err-clause-run g c =
    let told = c.refuse.ensures in
    let scene : Option MemDisk → Scene = λ dry. record {
      playing = playing_by c.args.image.now c.args.size c.args.mode None;
      source = source_seen g.S.Source c.args.source.now;
      new_source = source_seen g.S.Source c.read_script.new.source;
      disk = disk_seen g.D.Disk c.args.disk;
      new_disk = disk_seen g.D.Disk c.refuse.result.disk;
      sink = sink_seen g.K.Sink c.args.out.now;
      new_sink = sink_seen g.K.Sink c.refuse.new.out;
      copy = dry;
    } in
    let status = c.refuse.result.status in
    let reads = untouched (disk_seen g.D.Disk c.args.disk) (disk_seen g.D.Disk c.refuse.result.disk) (ap (λ d. disk_seen g.D.Disk d) told.disk) in
    subst (λ (r : Option Report). RunLeaves (scene c.refuse.result.dry) status r) (sym told.no_report)
    (subst (λ (dry : Option MemDisk). RunLeaves (scene dry) status None) (sym told.no_dry)
    (refused_leaves (scene None) status c.in-Err.error told.status
    (inl (record { cause = c.in-Err.ensures.cause; says = λ told. c.in-Err.ensures.script told })) (λ same. c.in-Err.ensures.fault (ap (λ e. Err e) same)) (λ same. absurd (subst (λ (e : StartError). IsOfScript e) same c.in-Err.ensures.cause))
    (record { reads = reads; opened = λ told. tt })))
