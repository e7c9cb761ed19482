use Rattle.std.proofs.Common.{◌∙◌, true, ap, subst, sym}
use Rattle.std.specs.Prelude.{IsTrue}
use Rattle.host_block.specs.{DiskState}
use Rattle.host_device.specs.{faulted_count}
use Rattle.host_io.specs.{Shape}
use Rattle.host_start.specs.{IsDiskOpened, IsPlaced}
use Rattle.play_law.specs.{IsSound}
use Rattle.host_run.proofs.Faults.{rose_before}
use Rattle.host_run.proofs.on_disk.play_on_disk.Goals as goal

pub returns-in-Ok-play_start-clause-ran : goal.returns-in-Ok-play_start-clause-ran
returns-in-Ok-play_start-clause-ran g c =
    let ready = c.in-Ok.ensures in
    let start = c.in-Ok.start in
    let run = c.in-Ok-play_start.run' in
    let ran = c.in-Ok-play_start.ensures in
    let image = g.D.Disk.image_named c.args.disk c.args.image.now c.args.size in
    let sound : IsTrue (g.D.Disk.shape c.args.disk).tells → IsSound image run.report (g.D.Disk.state run.disk) = λ told.
    let placed : IsPlaced true image start = record { layout = ready.placed.layout; blocks = ready.placed.blocks; used = ready.placed.used; places = ready.placed.places; on_image = λ is. ready.placed.on_image told } in
    ran.sound image placed (ap (λ (s : DiskState). s.durable) (ready.state told)) (ready.shape.told ∙ told) in
    let before = (g.D.Disk.counts c.args.disk).faults in
    let after = (g.D.Disk.counts run.disk).faults in
    record {
      answered = ran.lawful;
      laid_out = ran.laid_out (g.D.Disk.shape c.args.disk).tells image ready.placed;
      lawful = λ told. (sound told).lawful;
      outlives = λ told. (sound told).crashes;
      keeps = record { kept = λ told. (sound told).flushed; moments = λ told. (sound told).moments };
      forced = record { kept = λ told. (sound told).forced; moments = λ told. (sound told).forced_moments };
      left = record {
        size_is = ran.size ∙ ready.size;
        few = ran.few;
        own_blocks = ran.blocks ∙ (sym ready.shape.count ∙ sym (ap (λ (s : Shape). s.blocks) ran.shape));
        attached = subst (λ (s : Shape). IsDiskOpened c.args.size true s) (sym ran.shape) (ready.opened tt);
        cut_is = ran.cut;
        copy_is = (λ h. absurd (cc h), λ h. absurd (cc h));
        opened = λ told. tt;
        faults = rose_before (faulted_count run.report.steps.items) before (g.D.Disk.counts c.start_on_disk.new.disk).faults after ready.only_reads.later ran.faults;
        no_faults = λ on_copy. absurd (cc on_copy);
        reads = λ on_copy. absurd (cc on_copy);
      };
    }
