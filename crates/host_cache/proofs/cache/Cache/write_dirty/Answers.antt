use Rattle.std.proofs.Common.{refl, sym, ◌∙◌, ap, arith}
use Rattle.host_io.specs.{Shape}
use Rattle.host_cache.proofs.DirtyLemmas.{written_none, written_more, runs_stopped, runs_written, dirty_within}
use Rattle.host_cache.proofs.RunLemmas.{same_then}
use Rattle.host_cache.proofs.cache.Cache.write_dirty.Goals as goal

pub loop-b-init : goal.loop-b-init
loop-b-init g c = record { written = written_none c.args.self.now; content = λ told k below. refl; within = omega arith }

pub clean-requires : goal.clean-requires
clean-requires g c = (dirty_within c.loop-b.from c.args.self.now c.loop-b.self c.loop-b.invariant.written c.in-Some.b (sym c.first_dirty.ensures ∙ c.in-Some.is)).2

pub returns-in-Err-clause-calls : goal.returns-in-Err-clause-calls
returns-in-Err-clause-calls g c =
    runs_stopped c.loop-b.from c.args.self.now c.loop-b.self c.loop-b.invariant.written c.in-Some.b c.in-Err.error c.clean.new.self (sym c.first_dirty.ensures ∙ c.in-Some.is) c.in-Err.ensures.calls

pub overflow_add-from : goal.overflow_add-from
overflow_add-from g c =
    let within = dirty_within c.loop-b.from c.args.self.now c.loop-b.self c.loop-b.invariant.written c.in-Some.b (sym c.first_dirty.ensures ∙ c.in-Some.is) in
    omega (arith, within.1, c.loop-b.self.same_blocks, c.loop-b.self.in_word)

pub loop-b-smaller : goal.loop-b-smaller
loop-b-smaller g c =
    let within = dirty_within c.loop-b.from c.args.self.now c.loop-b.self c.loop-b.invariant.written c.in-Some.b (sym c.first_dirty.ensures ∙ c.in-Some.is) in
    let shape = ap (λ (sh : Shape). sh.blocks) c.loop-b.invariant.written.made.shape in
    omega (arith, within.0, within.1, shape)

pub loop-b-preserved : goal.loop-b-preserved
loop-b-preserved g c =
    let first = sym c.first_dirty.ensures ∙ c.in-Some.is in
    let within = dirty_within c.loop-b.from c.args.self.now c.loop-b.self c.loop-b.invariant.written c.in-Some.b first in
    let shape = c.loop-b.invariant.written.made.shape in
    let blocks = ap (λ (sh : Shape). sh.blocks) shape in
    record {
      written = written_more c.loop-b.from c.args.self.now c.loop-b.self c.loop-b.invariant.written c.in-Some.b c.clean.new.self first c.in-Ok.ensures.calls;
      content = same_then c.args.self.now c.loop-b.self c.clean.new.self shape c.loop-b.invariant.content c.clean.ensures.content;
      within = omega (arith, within.1, blocks);
    }

pub returns-clause-calls : goal.returns-clause-calls
returns-clause-calls g c =
    runs_written c.loop-b.from c.args.self.now c.loop-b.self c.loop-b.invariant.written c.loop-b.invariant.within (sym c.first_dirty.ensures ∙ c.in_default.is)
