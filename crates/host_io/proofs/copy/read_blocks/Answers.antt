use Rattle.std.proofs.Common.{◌∙◌, arith}
use Rattle.std.proofs.lemmas.Grind.{common_steps}
use Rattle.host_io.proofs.CountLemmas.{one_more_read}
use Rattle.host_io.proofs.copy.read_blocks.Goals as goal

pub loop-b-preserved : goal.loop-b-preserved
loop-b-preserved g c =
    let was = c.loop-b.invariant in
    let now = c.in_ok-read_block.ensures in
    record {
      shape = now.shape ∙ was.shape;
      state = now.state ∙ was.state;
      opening = now.opening ∙ was.opening;
      counts = one_more_read _ _ _ _ _ _ _ was.counts now.calls;
      long = grind (arith, common_steps);
      read = λ told. grind (arith, common_steps);
    }
