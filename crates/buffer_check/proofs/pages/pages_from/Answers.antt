use Rattle.host_model.specs.{page_at}
use Rattle.record_check.proofs.GroupLemmas.{flat_map_step}
use Rattle.buffer_check.proofs.pages.pages_from.Goals as goal

pub loop-k-preserved : goal.loop-k-preserved
loop-k-preserved c =
    flat_map_step (λ n. page_at c.args.size c.args.history.now c.args.v n) c.args.block c.loop-k.k _ _ _ c.loop-k.invariant c.in_ok-page.ensures c.in_ok-extend.ensures
