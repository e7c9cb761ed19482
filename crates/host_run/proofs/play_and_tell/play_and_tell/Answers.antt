use Rattle.std.proofs.Common.{ap, inr, Option, Some, None, subst, sym}
use Rattle.host_io.specs.declared.mem_disk.MemDisk.{MemDisk}
use Rattle.host_report.specs.{Report}
use Rattle.host_run.specs.{RunLeaves, DiskSeen, disk_seen, sink_seen, HasRunReport, playing_by}
use Rattle.host_run.specs.Scene.{Scene}
use Rattle.host_run.proofs.Left.{played_leaves, refused_leaves}
use Rattle.host_start.specs.{IsAfterScript, StartError}
use Rattle.script_model.specs.{plans_of}
use Rattle.host_run.proofs.play_and_tell.play_and_tell.Goals as goal

pub returns-in-Ok-clause-run : goal.returns-in-Ok-clause-run
returns-in-Ok-clause-run g c = λ making source new_source script.
    let run = c.in-Ok.run' in
    let ok = c.in-Ok.ensures in
    let told = c.tell.ensures in
    let scene : DiskSeen → Option MemDisk → Scene = λ disk dry. record {
      playing = playing_by c.args.image.now c.args.size c.args.mode making;
      source = source;
      new_source = new_source;
      disk = disk_seen g.D.Disk c.args.disk;
      new_disk = disk;
      sink = sink_seen g.K.Sink c.args.out.now;
      new_sink = sink_seen g.K.Sink c.tell.new.out;
      copy = dry;
    } in
    let status = c.tell.result.status in
    subst (λ (r : Option Report). RunLeaves (scene (disk_seen g.D.Disk c.tell.result.disk) c.tell.result.dry) status r) (sym told.report)
    (subst (λ (dry : Option MemDisk). RunLeaves (scene (disk_seen g.D.Disk c.tell.result.disk) dry) status (Some run.report)) (sym told.dry)
    (subst (λ (disk : DiskSeen). RunLeaves (scene disk run.dry) status (Some run.report)) (ap (λ d. disk_seen g.D.Disk d) (sym told.disk))
    (played_leaves (scene (disk_seen g.D.Disk run.disk) run.dry) (plans_of c.args.script) run.report status script ok.played ok.ran (subst (HasRunReport status) told.report told.ended) told.sink_fault told.text)))

pub returns-in-Err-clause-run : goal.returns-in-Err-clause-run
returns-in-Err-clause-run g c = λ making source new_source script.
    let no = c.in-Err.no in
    let because = c.in-Err.ensures.refused in
    let told = c.refuse_on.ensures in
    let scene : DiskSeen → Option MemDisk → Scene = λ disk dry. record {
      playing = playing_by c.args.image.now c.args.size c.args.mode making;
      source = source;
      new_source = new_source;
      disk = disk_seen g.D.Disk c.args.disk;
      new_disk = disk;
      sink = sink_seen g.K.Sink c.args.out.now;
      new_sink = sink_seen g.K.Sink c.refuse_on.new.out;
      copy = dry;
    } in
    let status = c.refuse_on.result.status in
    subst (λ (r : Option Report). RunLeaves (scene (disk_seen g.D.Disk c.refuse_on.result.disk) c.refuse_on.result.dry) status r) (sym told.no_report)
    (subst (λ (dry : Option MemDisk). RunLeaves (scene (disk_seen g.D.Disk c.refuse_on.result.disk) dry) status None) (sym told.dry)
    (subst (λ (disk : DiskSeen). RunLeaves (scene disk no.dry) status None) (ap (λ d. disk_seen g.D.Disk d) (sym told.disk))
    (refused_leaves (scene (disk_seen g.D.Disk no.disk) no.dry) status no.error told.status
    (inr (record { cause = because.cause; plans = plans_of c.args.script; script = script; says = because.says })) (λ same. absurd (subst (λ (e : StartError). IsAfterScript e) same because.cause)) because.fault because.left)))
