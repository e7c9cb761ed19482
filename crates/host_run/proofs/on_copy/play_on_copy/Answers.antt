use Rattle.std.proofs.Common.{◌≡◌, ◌∙◌, ℕ, List, length, true, ap, refl, subst, sym}
use Rattle.crash_law.specs.{KeepsForced, KeepsForcedAtEachMoment, KeepsAtEachMoment, KeepsFlushed}
use Rattle.host_block.specs.{IsCrashImage, DiskState}
use Rattle.host_device.specs.{RoseBy, faulted_count}
use Rattle.host_io.specs.{image_of, counts_of}
use Rattle.host_model.specs.{changes_of}
use Rattle.host_report.specs.{IsLawful}
use Rattle.host_start.specs.{image_in, SaysOfImage, parts_of}
use Rattle.script_model.specs.{plans_of}
use Rattle.host_run.specs.{opening_image}
use Rattle.host_run.proofs.Faults.{none_faulted, rose_by_none}
use Rattle.host_run.proofs.Starts.{as_many, of_its_disk}
use Rattle.host_run.proofs.on_copy.play_on_copy.Goals as goal

pub play_start-requires-clause-places : goal.play_start-requires-clause-places
play_start-requires-clause-places g c κs within =
    let start = c.in-Ok.ready.start in
    as_many (plans_of start.script) start.places.items c.in-Ok.ensures.placed.places.named

pub returns-in-Ok-play_start-clause-ran : goal.returns-in-Ok-play_start-clause-ran
returns-in-Ok-play_start-clause-ran g c =
    let ready = c.in-Ok.ensures in
    let copy = c.in-Ok.ready.copy in
    let run = c.in-Ok-play_start.run' in
    let ran = c.in-Ok-play_start.ensures in
    let same : opening_image c.args.size run.disk ≡ image_in copy = (λ i. image_of (sym ready.copy_size i) (ran.opening i)) in
    let sound = ran.sound (image_in copy) ready.placed (ap (λ (s : DiskState). s.durable) copy.fresh) refl in
    let none : faulted_count run.report.steps.items ≡ 0 = none_faulted (faulted_count run.report.steps.items) (counts_of copy.disk).faults (counts_of run.disk).faults ran.faults (ran.unfailing copy.never_fails) copy.has_not_failed in
    let before = (g.D.Disk.counts c.args.disk).faults in
    let after = (g.D.Disk.counts c.start_on_copy.new.disk).faults in
    record {
      answered = ran.lawful;
      laid_out = ran.laid_out true (image_in copy) ready.placed;
      lawful = λ told. subst (λ (i : List (List ℕ)). IsLawful i run.report) (sym same) sound.lawful;
      outlives = λ told left crash. subst (λ (i : List (List ℕ)). IsCrashImage i (changes_of run.report.steps.items) left) (sym same) (sound.crashes left crash);
      keeps = record {
        kept = λ told left crash. subst (λ (i : List (List ℕ)). KeepsFlushed i run.report run.report.steps.items left) (sym same) (sound.flushed left crash);
        moments = λ told. subst (λ (i : List (List ℕ)). KeepsAtEachMoment i run.report) (sym same) sound.moments;
      };
      forced = record {
        kept = λ told left crash. subst (λ (i : List (List ℕ)). KeepsForced i run.report left) (sym same) (sound.forced left crash);
        moments = λ told. subst (λ (i : List (List ℕ)). KeepsForcedAtEachMoment i run.report) (sym same) sound.forced_moments;
      };
      left = record {
        size_is = ran.size ∙ ready.size;
        few = ran.few;
        own_blocks = ran.blocks ∙ ready.disk_blocks;
        attached = ready.read_alone tt;
        cut_is = ran.cut;
        copy_is = (λ h. refl, λ h. refl);
        opened = λ told. same ∙ ready.copied told;
        faults = subst (λ (n : ℕ). RoseBy n before after) (sym none) (rose_by_none before after ready.only_reads.later);
        no_faults = λ on_copy. none;
        reads = λ on_copy. ready.only_reads;
      };
    }

pub returns-clause-refused : goal.returns-clause-refused
returns-clause-refused g c =
    let no = c.in-Err.no in
    let because = c.in-Err.ensures in
    let of = c.disk_of.ensures in
    let parts = parts_of (plans_of c.args.script) in
    let held = g.D.Disk.image_named c.args.disk c.args.image.now c.args.size in
    let shape = g.D.Disk.shape c.start_on_copy.new.disk in
    record {
      cause = because.cause;
      fault = because.fault;
      says = record {
        told = because.refused;
        found = of_its_disk (λ (i : List (List ℕ)). SaysOfImage i parts no.error) c.args.size no.copy c.disk_of.result of.some of.disk because.found_size because.found_on;
        found_blocks = of_its_disk (λ (i : List (List ℕ)). length i ≡ shape.blocks) c.args.size no.copy c.disk_of.result of.some of.disk because.found_size because.found_blocks;
        blocks = because.refused_blocks;
        attached = because.read_alone;
      };
      copy_is = (λ some. because.handed.0 (of.some.0 some), λ content. of.some.1 (because.handed.1 content));
      left = record {
        reads = because.only_reads;
        opened = λ told. of_its_disk (λ (i : List (List ℕ)). i ≡ held) c.args.size no.copy c.disk_of.result of.some of.disk because.found_size (because.found told);
      };
    }
