use Rattle.host_model.specs.{found_by}
use Rattle.record_check.proofs.BeforeLemmas.{map_step}
use Rattle.buffer_check.proofs.pages.all_found.Goals as goal

pub loop-i-preserved : goal.loop-i-preserved
loop-i-preserved c =
    map_step (found_by c.args.size) c.args.history.now c.loop-i.i c.index-history-i.result _ _ _ c.loop-i-test.true c.index-history-i.is c.loop-i.invariant c.in_ok-bytes.ensures c.in_ok-push_some.ensures
