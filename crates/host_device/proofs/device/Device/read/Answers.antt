use Rattle.std.proofs.Common.{IsTrue, ◌∙◌, ap, sym, subst}
use Rattle.host_block.specs.{Read}
use Rattle.host_log.specs.{SwitchedLog}
use Rattle.host_io.specs.{Shape}
use Rattle.host_cache.specs.{shape_of}
use Rattle.host_model.specs.{Step}
use Rattle.host_device.specs.{Owner, answer_alone, RoseBy, faulted_count}
use Rattle.host_device.proofs.DeviceLemmas.{crashes, stepped}
use Rattle.host_device.proofs.FaultLemmas.{faults_step}
use Rattle.host_device.proofs.device.Device.read.Goals as goal

pub invariant_of-self : goal.invariant_of-self
invariant_of-self g c =
    let old = c.args.self.now in
    let m = c.make_read.ensures in
    let owner : Owner = record { hand = c.args.hand; session = c.args.session; index = c.args.index; k = c.args.k } in
    let before = λ (t : IsTrue (shape_of c.make_read.new.cache).tells). subst (λ (sh : Shape). IsTrue sh.tells) m.shape t in
    let now = λ (t : IsTrue (shape_of c.make_read.new.cache).tells).
    stepped g.met.D.Disk.of_size old (before t) Read c.args.b c.make_read.new.into c.make_read.new.cache owner (answer_alone c.make_read.result) c.requires.block m.calls c.make_read.new.steps m.entry m.gives m.content in
    let counts = g.D.Disk.counts in
    record {
      same_shape = m.shape ∙ old.same_shape;
      same_opening = m.calls.runs.made.opening ∙ old.same_opening;
      legal = λ t. (now t).legal;
      current = λ t. (now t).current;
      kept = λ t. ∣ (now t).keeps ∣₁;
      faults =
          subst (λ (s : SwitchedLog Step). RoseBy (faulted_count s.items) (counts old.opening.value).faults (counts c.make_read.new.cache.disk).faults) (sym m.entry)
          (
          faults_step
          c.args.hand
          c.args.session
          c.args.index
          c.args.k
          Read
          c.args.b
          c.make_read.new.into
          (answer_alone c.make_read.result)
          old.steps.items
          (counts old.opening.value).faults
          (counts old.cache.disk).faults
          (counts c.make_read.new.cache.disk).faults
          old.faults
          m.calls.runs.made.later
          m.fault
          );
      unfailing = λ never. let was = old.unfailing never in (m.calls.runs.made.still was.0, m.calls.runs.made.no_fault was.0 ∙ was.1);
    }

pub returns-clause-calls : goal.returns-clause-calls
returns-clause-calls g c =
    let owner : Owner = record { hand = c.args.hand; session = c.args.session; index = c.args.index; k = c.args.k } in
    record {
      called = c.make_read.ensures.calls;
      crashes = λ told. crashes g.met.D.Disk.of_size c.args.self.now told Read c.args.b c.make_read.new.into c.make_read.new.cache owner (answer_alone c.make_read.result) c.requires.block c.make_read.ensures.calls;
    }

pub returns-clause-fault : goal.returns-clause-fault
returns-clause-fault g c = λ is. c.make_read.ensures.fault (ap answer_alone is)
