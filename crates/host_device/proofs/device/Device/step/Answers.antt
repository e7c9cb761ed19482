use Rattle.std.proofs.Common.{IsTrue, ◌∙◌, ap, sym, subst}
use Rattle.std.proofs.lemmas.List.{map-append}
use Rattle.host_log.specs.{SwitchedLog}
use Rattle.host_io.specs.{Shape}
use Rattle.host_cache.specs.{shape_of}
use Rattle.host_model.specs.{Step, change_of, changes_of}
use Rattle.host_device.specs.{Owner, step_entry, entries_added, RoseBy, faulted_count, image_of, history_of}
use Rattle.host_device.proofs.DeviceLemmas.{crashes, stepped, flushed}
use Rattle.host_device.proofs.FaultLemmas.{faults_step}
use Rattle.host_device.proofs.device.Device.step.Goals as goal

pub invariant_of-self : goal.invariant_of-self
invariant_of-self g c =
    let old = c.args.self.now in
    let m = c.make_step.ensures in
    let owner : Owner = record { hand = c.args.hand; session = c.args.session; index = c.args.index; k = c.args.k } in
    let before = λ (t : IsTrue (shape_of c.make_step.new.cache).tells). subst (λ (sh : Shape). IsTrue sh.tells) m.shape t in
    let now = λ (t : IsTrue (shape_of c.make_step.new.cache).tells).
    stepped g.met.D.Disk.of_size old (before t) c.args.op c.args.b c.args.bytes c.make_step.new.cache owner c.make_step.result c.requires.block m.calls c.make_step.new.steps m.entry m.gives m.content in
    let counts = g.D.Disk.counts in
    record {
      same_shape = m.shape ∙ old.same_shape;
      same_opening = m.calls.runs.made.opening ∙ old.same_opening;
      legal = λ t. (now t).legal;
      current = λ t. (now t).current;
      kept = λ t. ∣ (now t).keeps ∣₁;
      faults =
          subst (λ (s : SwitchedLog Step). RoseBy (faulted_count s.items) (counts old.opening.value).faults (counts c.make_step.new.cache.disk).faults) (sym m.entry)
          (
          faults_step
          c.args.hand
          c.args.session
          c.args.index
          c.args.k
          c.args.op
          c.args.b
          c.args.bytes
          c.make_step.result
          old.steps.items
          (counts old.opening.value).faults
          (counts old.cache.disk).faults
          (counts c.make_step.new.cache.disk).faults
          old.faults
          m.calls.runs.made.later
          m.fault
          );
      unfailing = λ never. let was = old.unfailing never in (m.calls.runs.made.still was.0, m.calls.runs.made.no_fault was.0 ∙ was.1);
    }

pub returns-clause-calls : goal.returns-clause-calls
returns-clause-calls g c =
    let owner : Owner = record { hand = c.args.hand; session = c.args.session; index = c.args.index; k = c.args.k } in
    record {
      called = c.make_step.ensures.calls;
      crashes = λ told. crashes g.met.D.Disk.of_size c.args.self.now told c.args.op c.args.b c.args.bytes c.make_step.new.cache owner c.make_step.result c.requires.block c.make_step.ensures.calls;
    }

pub returns-clause-flushed : goal.returns-clause-flushed
returns-clause-flushed g c =
    let old = c.args.self.now in
    let m = c.make_step.ensures in
    let new = c.make_step.new.cache in
    let owner : Owner = record { hand = c.args.hand; session = c.args.session; index = c.args.index; k = c.args.k } in
    let added = entries_added c.make_step.result (step_entry owner c.args.op c.args.b c.args.bytes) in
    flushed (image_of old) (history_of old) (changes_of c.make_step.new.steps.items) (g.D.Disk.state new.disk) (IsTrue (shape_of new).tells) c.args.op c.args.b c.args.bytes owner c.make_step.result
    (ap (λ (s : SwitchedLog Step). changes_of s.items) m.entry ∙ map-append change_of old.steps.items added)
    (λ told.
    let before = subst (λ (sh : Shape). IsTrue sh.tells) m.shape told in
    (stepped g.met.D.Disk.of_size old before c.args.op c.args.b c.args.bytes new owner c.make_step.result c.requires.block m.calls c.make_step.new.steps m.entry m.gives m.content).keeps)
