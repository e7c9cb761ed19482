use Rattle.std.proofs.Common.{◌≡◌, ◌≢◌, ◌∙◌, Option, ap, subst, sym}
use Rattle.std.specs.Prelude.{IfSome}
use Rattle.host_io.specs.declared.mem_disk.MemDisk.{MemDisk}
use Rattle.host_run.specs.{Listing, refusal_line, refused_status, opening_image, disk_seen, sink_seen, source_seen, Playing, playing_in, said_by, PutsText, Done, SinkFault}
use Rattle.host_run.specs.Scene.{Scene}
use Rattle.host_run.proofs.Calls.{if_none, listed_line}
use Rattle.host_run.proofs.Left.{oom_leaves, untouched}
use Rattle.host_run.proofs.top_call.run.Goals as goal

pub returns-in-Err-Oom-clause-run : goal.returns-in-Err-Oom-clause-run
returns-in-Err-Oom-clause-run g c =
    let left = c.refuse-in-Err-Oom in
    let disk = disk_seen g.D.Disk c.args.disk in
    let new_disk = disk_seen g.D.Disk left.result.disk in
    let scene : Playing → Scene = λ playing. record {
      playing = playing;
      source = source_seen g.S.Source c.args.script.now;
      new_source = source_seen g.S.Source c.args.script.now;
      disk = disk;
      new_disk = new_disk;
      sink = sink_seen g.K.Sink c.args.out.now;
      new_sink = sink_seen g.K.Sink left.new.out;
      copy = left.result.dry;
    } in
    oom_leaves (playing_in (said_by c.args.words.now)) scene left.result.status left.result.report (left.ensures.status ∙ ap refused_status c.memory.ensures) left.ensures.no_report
    (λ playing. record { reads = untouched disk new_disk (ap (λ d. disk_seen g.D.Disk d) left.ensures.disk); opened = λ told. subst (λ (copy : Option MemDisk). IfSome copy (λ copy. opening_image playing.size copy ≡ g.D.Disk.image_named c.args.disk playing.name playing.size)) (sym left.ensures.no_dry) tt })

pub returns-in-List-clause-line : goal.returns-in-List-clause-line
returns-in-List-clause-line g c =
    let l : Listing = record {
      asked = record { name = c.in-List.image.now; size = c.in-List.block };
      disk = disk_seen g.D.Disk c.args.disk;
      new_disk = disk_seen g.D.Disk c.list.result.disk;
      sink = sink_seen g.K.Sink c.args.out.now;
      new_sink = sink_seen g.K.Sink c.list.new.out;
    } in
    let s = c.list.result.status in
    if_none c.list.result.report (s ≢ Done → s ≢ SinkFault → PutsText l.sink l.new_sink (refusal_line s)) (listed_line l s c.list.ensures.leaves)
