use Rattle.std.proofs.Common.{◌≡◌, ℕ, ◌/◌, length, sym, ◌∙◌, ap, arith, subst}
use Rattle.host_block.specs.{block_at, picked, IsPicked}
use Rattle.host_io.specs.{cut, put_at, image_of, length-cut, state_of, pairs_of}
use Rattle.host_io.proofs.FlatLemmas.{picks_more}
use Rattle.host_io.proofs.mem_disk.MemDisk.crash.Goals as goal

pub loop-b-preserved : goal.loop-b-preserved
loop-b-preserved c =
    let d = c.args.self.now in
    let put : c.put_pick.new.bytes.items ≡ put_at d.size c.loop-b.bytes.items (c.loop-b.b, picked (pairs_of d.waiting.items) c.loop-b.b c.pick_at.result (block_at (cut d.size d.blocks d.bytes.items) c.loop-b.b)) =
    c.put_pick.ensures.put
    ∙ (λ i. put_at d.size c.loop-b.bytes.items (c.loop-b.b, picked (pairs_of (c.deref-in-loop-b-2.ensures.value i)) c.loop-b.b c.pick_at.result (block_at (cut d.size d.blocks (c.deref-in-loop-b.ensures.value i)) c.loop-b.b))) in
    let more = picks_more d.size d.blocks c.loop-b.b c.pick_at.result d.bytes.items c.loop-b.bytes.items c.put_pick.new.bytes.items d.waiting.items c.args.picks.now d.whole c.loop-b.invariant.long d.fitting c.loop-b-test.true c.pick_at.ensures put c.loop-b.invariant.done in
    record { long = more.0; rest = c.put_pick.ensures.rest ∙ c.loop-b.invariant.rest; done = more.1 }

pub returns-clause-left : goal.returns-clause-left
returns-clause-left c attached =
    let d = c.args.self.now in
    let opening : c.new-2.result.opening.value.items ≡ c.loop-b.bytes.items = c.new-2.ensures.opening in
    let count : length c.new-2.result.opening.value.items / d.size ≡ d.blocks = ap (λ (n : ℕ). n / d.size) (ap length opening ∙ c.loop-b.invariant.long) ∙ sym (d.counted attached) in
    let same : image_of d.size c.new-2.result.opening.value.items ≡ cut d.size d.blocks c.loop-b.bytes.items = (λ i. cut d.size (count i) (opening i)) in
    subst (IsPicked (state_of d) c.args.picks.now) (sym same) (record {
      blocks = length-cut d.size d.blocks c.loop-b.bytes.items ∙ sym (length-cut d.size d.blocks d.bytes.items);
      each = λ b within. c.loop-b.invariant.done b (omega (arith, within, length-cut d.size d.blocks d.bytes.items, c.loop-b-test.false));
    })
