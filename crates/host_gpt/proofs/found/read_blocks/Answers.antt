use Rattle.std.proofs.Common.{◌≡◌, ◌+◌, ◌<◌, ◌++◌, IsTrue, length, sym, ◌∙◌, ap, subst, arith}
use Rattle.host_block.specs.{DiskState, block_at, read_of}
use Rattle.host_io.specs.{Shape}
use Rattle.host_gpt.proofs.BlockLemmas.{joined_more, read_of-image, length-current_image}
use Rattle.host_gpt.proofs.ReadLemmas.{one_read_more}
use Rattle.host_gpt.specs.{current_image}
use Rattle.host_gpt.proofs.found.read_blocks.Goals as goal

pub overflow_add-first : goal.overflow_add-first
overflow_add-first g c = let within = c.requires.inside c.loop-k.k (omega arith) in omega arith

pub read_block-requires-clause-block : goal.read_block-requires-clause-block
read_block-requires-clause-block g c =
    let within = c.requires.inside c.loop-k.k (omega arith) in
    omega (arith, c.requires.blocks, ap (λ (sh : Shape). sh.blocks) c.loop-k.invariant.shape)

pub loop-k-preserved : goal.loop-k-preserved
loop-k-preserved g c =
    let D = g.D.Disk in
    let before = c.args.disk.now in
    let mid = c.loop-k.disk in
    let now = c.read_block.new.self in
    let at = c.args.first + c.loop-k.k in
    record {
      shape = c.read_block.ensures.shape ∙ c.loop-k.invariant.shape;
      state = c.read_block.ensures.state ∙ c.loop-k.invariant.state;
      opening = c.read_block.ensures.opening ∙ c.loop-k.invariant.opening;
      counts = one_read_more (D.counts before) (D.counts mid) (D.counts now) (D.never_fails before) (D.never_fails mid) (D.never_fails now) c.read_block.result c.loop-k.invariant.counts c.read_block.ensures.calls;
      len = omega (arith, c.in_ok-extend_from_slice.ensures.len, c.read_block.auto.into, c.loop-k.auto.block, c.requires.piece, c.loop-k.invariant.len);
      read = λ told.
          let s = D.state before in
          let inside : at < length s.durable = omega (arith, c.requires.inside c.loop-k.k (omega arith), c.requires.blocks, (g.met.D.Disk.of_size before told).count) in
          let told1 : IsTrue (D.shape mid).tells = subst (λ (sh : Shape). IsTrue sh.tells) (sym c.loop-k.invariant.shape) told in
          let got : c.read_block.new.into ≡ block_at (current_image s) at = c.in_ok-read_block.ensures.bytes told1 ∙ ap (λ (st : DiskState). read_of st at) c.loop-k.invariant.state ∙ read_of-image s at inside in
          c.in_ok-extend_from_slice.ensures.items
          ∙ (λ i. c.loop-k.invariant.read told i ++ got i)
          ∙ sym (joined_more (current_image s) c.args.first c.loop-k.k (omega (arith, length-current_image s)));
    }
